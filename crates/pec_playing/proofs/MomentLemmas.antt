-- What a crash may leave of disks at any moment of a command, as a run says it of a step.
use Rattle.std.proofs.Common.{◌≡◌, ℕ, ◌<◌, List, length, get_or, inl, inr, sym, subst, ◌∙◌, ap, arith, Option, Some}
use Rattle.std.specs.Prelude.{option_map, slice_get}
use Rattle.std.proofs.lemmas.Option.{none-some, same_Some, slice_get-get_or, slice_get_cases, slice_get_within}
use Rattle.pec_types.specs.Bytes.{Bytes}
use Rattle.pec_outside.specs.DiskModel.{LeavesOnly, Sight}
use Rattle.pec_ledger.specs.Ledger.{Journals}
use Rattle.pec_ledger.specs.Network.{Sound, interrupted_at, journal_at, journals_of}
use Rattle.pec_ledger.specs.Trade.{Trade}
use Rattle.pec_network.specs.Carrying.{AllCarryOn}
use Rattle.pec_network.specs.Network.{NetworkState, sites, sites_of}
use Rattle.pec_network.specs.OfProviders.{ChronicleState, FollowsSo, ProviderState, Stands}
use Rattle.pec_posts.specs.Arrivals.{Waiting}
use Rattle.pec_screen.specs.Verdicts.{Patterns}
use Rattle.pec_runs.specs.Steps.{AreCounted, AreSeen, CameFrom, IsMoment, State}
use Rattle.pec_playing.specs.Doing.{Carries}
use Rattle.pec_playing.specs.Playing.{count_or}
use Rattle.pec_playing.specs.Points.{chronicles_in, point_of, state_in}

abbrev chronicle_in : {D : Type 0} → Option (ProviderState D) → Option (ChronicleState D)
chronicle_in {D} found = option_map (λ (provider : ProviderState D). provider.chronicle) found

-- the provider whose entries these are
there : {D : Type 0} (providers : List (ProviderState D)) (number : ℕ) (state : ChronicleState D)
    → chronicles_in providers number ≡ Some state
    → (one : ProviderState D) × (slice_get providers number ≡ Some one) × (one.chronicle ≡ state)
there {D} providers number state is = elim (slice_get_cases providers number).1 [
  | inl found ↦ (found.0, found.2, same_Some found.0.chronicle state (sym (ap chronicle_in found.2) ∙ is))
  | inr past ↦ absurd (none-some state (sym (ap chronicle_in past.1) ∙ is))
]

-- What pec_network says of a call by which providers carry on.
pub record CallLaws {D : Type 0} (sight : D → Sight) (trade : Trade) : Type 0 where
  pub follows : (old new : List (ProviderState D)) (screens : List (List Patterns)) (waiting : List Waiting)
      → AllCarryOn sight trade (journals_of (sites_of old screens waiting)) old new
      → (number : ℕ) (was now : ProviderState D)
      → slice_get old number ≡ Some was → slice_get new number ≡ Some now → Stands sight was.chronicle
      → Stands sight now.chronicle × LeavesOnly (sight was.chronicle.disk) (sight now.chronicle.disk)
      (FollowsSo trade (sites_of old screens waiting) number)
  pub seen : (providers : List (ProviderState D)) (screens : List (List Patterns)) (waiting : List Waiting) (number : ℕ)
      (one : ProviderState D)
      → slice_get providers number ≡ Some one
      → (journal_at (sites_of providers screens waiting) number ≡ one.chronicle.entries)
      × (interrupted_at (sites_of providers screens waiting) number ≡ one.chronicle.interrupted)

module _ {D S : Type 0} (sight : D → Sight) (tells : Type 0) (trade : Trade) (laws : CallLaws sight trade)
    (old new : NetworkState D S) (many : length new.providers ≡ length old.providers)
    (carries : Carries sight tells trade old new) (told : tells) (count : D → ℕ) (elsewhere : ℕ → ℕ)
    (spares left : List Patterns) (before after : Option Bytes) (from upto : ℕ) where
  abbrev here : State D
  here = (point_of count elsewhere spares old before from).state

  abbrev behind : State D
  behind = (point_of count elsewhere left new after upto).state

  seen_now : AreSeen behind
  seen_now number one is =
      let x = there new.providers number one is
      in subst (λ (state : ChronicleState D). (journal_at (sites new) number ≡ state.entries)
      × (interrupted_at (sites new) number ≡ state.interrupted)) x.2
      (laws.seen new.providers new.screens new.waiting number x.0 x.1)

  came_so : Sound trade (sites old) → (number : ℕ) (one : ProviderState D) → slice_get new.providers number ≡ Some one
      → CameFrom trade sight (sites old) number (here.chronicles number) one.chronicle
  came_so sound number one is =
      let within : number < length old.providers = omega (arith, many, slice_get_within new.providers number one is)
      in let was = get_or old.providers number one
      in let found = slice_get-get_or old.providers number one within
      in let follows = laws.follows old.providers new.providers old.screens old.waiting (carries told sound) number was one found is
      in record {
        was = was.chronicle;
        is = ap chronicle_in found;
        stands = λ stood. (follows stood).0;
        moments = λ stood. (follows stood).1;
      }

  pub is_moment : IsMoment trade sight here behind
  is_moment = inr (record {
    seen = seen_now;
    came = λ sound number now is.
        let x = there new.providers number now is
        in subst (λ (state : ChronicleState D). CameFrom trade sight (sites old) number (here.chronicles number) state) x.2
        (came_so sound number x.0 x.1);
  })

-- counts of faults are those of the disks
pub state_counted : {D S : Type 0} (faults : D → ℕ) (elsewhere : ℕ → ℕ) (spares : List Patterns) (network : NetworkState D S)
    → AreCounted faults (state_in faults elsewhere spares network)
state_counted {D} faults elsewhere spares network number one is =
    let x = there network.providers number one is
    in ap (λ (found : Option (ProviderState D)). count_or faults (elsewhere number) found) x.1
    ∙ ap (λ (state : ChronicleState D). faults state.disk) x.2

-- nothing but what waits is another
pub carries_providers : {D S : Type 0} (sight : D → Sight) (tells : Type 0) (trade : Trade) (old new : NetworkState D S)
    → new ≡ record old { waiting = new.waiting }
    → (tells → (trade : Trade) (journals : Journals) (providers : List (ProviderState D))
    → AllCarryOn sight trade journals providers providers) → Carries sight tells trade old new
carries_providers {D} {S} sight tells trade old new same rests told sound =
    subst (λ (l : List (ProviderState D)). AllCarryOn sight trade (journals_of (sites old)) old.providers l)
    (sym (ap (λ (n : NetworkState D S). n.providers) same)) (rests told trade (journals_of (sites old)) old.providers)

-- nothing but screens, and how often they have looked, is another
pub carries_screens : {D S : Type 0} (sight : D → Sight) (tells : Type 0) (trade : Trade) (old new : NetworkState D S)
    → new ≡ record old { screens = new.screens; looks = new.looks }
    → (tells → (trade : Trade) (journals : Journals) (providers : List (ProviderState D))
    → AllCarryOn sight trade journals providers providers) → Carries sight tells trade old new
carries_screens {D} {S} sight tells trade old new same rests told sound =
    subst (λ (l : List (ProviderState D)). AllCarryOn sight trade (journals_of (sites old)) old.providers l)
    (sym (ap (λ (n : NetworkState D S). n.providers) same)) (rests told trade (journals_of (sites old)) old.providers)
