-- A run that is killed at a moment of a step.
use Rattle.std.proofs.Common.{◌≡◌, ℕ, zero, suc, ◌<◌, ◌≤◌, inl, inr, List, [], ◌∷◌, ◌++◌, length, refl, ap, sym, subst, ◌∙◌, arith, Option, Some}
use Rattle.std.specs.Prelude.{slice_index_or}
use Rattle.std.proofs.lemmas.List.{append-nil, append_assoc}
use Rattle.std.proofs.lemmas.Option.{same_Some}
use Rattle.pec_runs.proofs.GoingLemmas.{wrote_more}
use Rattle.pec_types.specs.Bytes.{Bytes}
use Rattle.pec_outside.specs.DiskModel.{Sight}
use Rattle.pec_outside.specs.Flow.{WrotePart}
use Rattle.pec_directory.specs.Directory.{Provider}
use Rattle.pec_records.specs.declared.entries.Entry.{Entry}
use Rattle.pec_ledger.specs.Ledger.{Fit}
use Rattle.pec_ledger.specs.Network.{FollowsState, Site, Sound, chosen, interrupted_at, journal_at, journals_in}
use Rattle.pec_ledger.specs.Trade.{Trade}
use Rattle.pec_chronicle.specs.Carrying.{FollowsSo}
use Rattle.pec_chronicle.specs.Chronicle.{ChronicleState, IsJournalOf, Stands}
use Rattle.pec_plays.specs.Commands.{Command, Luck, played}
use Rattle.pec_plays.specs.Scripts.{IsUnforged}
use Rattle.pec_ledger.specs.TradeLaws.{IsTrade}
use Rattle.pec_runs.specs.Moves.{KeepSound}
use Rattle.pec_runs.specs.Moments.{AllStandIn, AreHonest, HasTold, HoldsAll, IsHonestAct, IsKilledAt, IsKilledIn, Phase, Playing, Writing}
use Rattle.pec_runs.specs.Moments.{lines_at, number_told, state_at, told_before}
use Rattle.pec_runs.specs.Steps.{Act, AllMoments, AreSeen, AreSteps, Hands, IsMoment, IsStep, Plays}
use Rattle.pec_runs.specs.Steps.{State, Step, Writes, text_by}

-- what pec_plays says of commands, in one world
abbrev pub StaysSound : Trade → Type 0
StaysSound trade =
    (luck : Luck) (sites : List Site) (command : Command) → Sound trade sites → IsUnforged trade luck sites command
    → Sound trade (played trade luck sites command).after

module _ (trade : Trade) {D : Type 0} (sight : D → Sight) where
  -- ---- the moments of a step, by its number

  pub moment_at : (number : ℕ) (here there : State D) (steps : List (Step D)) → AllMoments trade sight here there steps
      → number ≤ length steps
      → IsMoment trade sight (state_at number here there steps) (state_at (suc number) here there steps)
  moment_at zero here there [] all within = all.last
  moment_at zero here there (step ∷ steps) all within = all.each.0
  moment_at (suc number) here there [] all within = absurd (omega (arith, within))
  moment_at (suc number) here there (step ∷ steps) all within =
      moment_at number step.behind there steps (record { each = all.each.1; last = all.last }) (omega (arith, within))

  -- what is seen is seen again
  seen_on : (here there : State D) → IsMoment trade sight here there → AreSeen here → AreSeen there
  seen_on here there (inl same) seen = subst (λ (s : State D). AreSeen s) (sym same) seen
  seen_on here there (inr moments) seen = moments.seen

  pub seen_at : (number : ℕ) (here there : State D) (steps : List (Step D)) → AllMoments trade sight here there steps
      → AreSeen here → number ≤ length steps → AreSeen (state_at number here there steps)
  seen_at zero here there steps all seen within = seen
  seen_at (suc number) here there [] all seen within = absurd (omega (arith, within))
  seen_at (suc number) here there (step ∷ steps) all seen within =
      seen_at number step.behind there steps (record { each = all.each.1; last = all.last })
      (seen_on here step.behind all.each.0 seen) (omega (arith, within))

  -- what stands on its disk stands there again
  stands_on : (here there : State D) → IsMoment trade sight here there → Sound trade here.sites → AllStandIn sight here
      → AllStandIn sight there
  stands_on here there (inl same) sound stand = subst (λ (s : State D). AllStandIn sight s) (sym same) stand
  stands_on here there (inr moments) sound stand = λ provider one is.
      let came = moments.came sound provider one is
      in came.stands (stand provider came.was came.is)

  module _ (tells : Type 0) (stays : StaysSound trade) where
    pub sound_on : (here behind : State D) (act : Act) (luck : Luck) → IsStep trade tells here act luck behind → Sound trade here.sites
        → IsHonestAct trade luck here.sites act → Sound trade behind.sites
    sound_on here behind (Plays command) luck is sound honest =
        subst (λ (s : List Site). Sound trade s) (sym is.0.state) (stays luck here.sites command sound honest)
    sound_on here behind (Hands command) luck is sound honest =
        subst (λ (s : List Site). Sound trade s) (sym is.0.state) (stays luck here.sites command sound honest)
    sound_on here behind (Writes text) luck is sound honest =
        subst (λ (s : State D). Sound trade s.sites) (sym is) sound

    pub sound_at : (number : ℕ) (here there : State D) (steps : List (Step D)) → AreSteps trade tells here steps
        → AllMoments trade sight here there steps → AreHonest trade here steps → Sound trade here.sites
        → AllStandIn sight here → number ≤ length steps
        → Sound trade (state_at number here there steps).sites × AllStandIn sight (state_at number here there steps)
    sound_at zero here there steps are all honest sound stand within = (sound, stand)
    sound_at (suc number) here there [] are all honest sound stand within = absurd (omega (arith, within))
    sound_at (suc number) here there (step ∷ steps) are all honest sound stand within =
        sound_at number step.behind there steps are.1 (record { each = all.each.1; last = all.last }) honest.1
        (sound_on here step.behind step.act step.luck are.0 sound honest.0)
        (stands_on here step.behind all.each.0 sound stand) (omega (arith, within))

  -- where each step keeps the state Sound
  pub keeps_at : IsTrade trade → (number : ℕ) (here there : State D) (steps : List (Step D)) → KeepSound trade here steps
      → AllMoments trade sight here there steps → Sound trade here.sites → AllStandIn sight here → number ≤ length steps
      → Sound trade (state_at number here there steps).sites × AllStandIn sight (state_at number here there steps)
  keeps_at is_trade zero here there steps keep all sound stand within = (sound, stand)
  keeps_at is_trade (suc number) here there [] keep all sound stand within = absurd (omega (arith, within))
  keeps_at is_trade (suc number) here there (step ∷ steps) keep all sound stand within =
      keeps_at is_trade number step.behind there steps keep.1 (record { each = all.each.1; last = all.last })
      (keep.0 is_trade sound) (stands_on here step.behind all.each.0 sound stand) (omega (arith, within))

  -- ---- a kill

  module _ (only_now : (disk : D) (bytes : Bytes) → (sight disk).left_since (sight disk).moment bytes
      → (sight disk).may_leave bytes) where
    -- a disk on which nothing was done
    still : (here : State D) (provider : ℕ) (one : ChronicleState D) → here.chronicles provider ≡ Some one
        → AreSeen here → Stands sight one → (bytes : Bytes) → (sight one.disk).may_leave bytes
        → FollowsSo trade here.sites provider bytes
    still here provider one is seen stands bytes may =
        let image = stands.images bytes may
        in let same = seen provider one is
        in (
          one.entries ++ chosen image.0 one.interrupted,
          record {
            choice = image.0;
            further = [];
            is = ap (λ (l : List Entry). one.entries ++ l) (sym (append-nil (chosen image.0 one.interrupted)))
                ∙ ap (λ (l : List Entry). l ++ (chosen image.0 one.interrupted ++ [])) (sym same.0)
                ∙ ap (λ (i : Option Entry). journal_at here.sites provider ++ (chosen image.0 i ++ [])) (sym same.1);
            follows = tt;
          },
          image.1,
        )

    within : (before behind : State D) → IsMoment trade sight before behind → Sound trade before.sites
        → AllStandIn sight before → AreSeen before → (provider : ℕ) (was now : ChronicleState D)
        → before.chronicles provider ≡ Some was → behind.chronicles provider ≡ Some now → (bytes : Bytes)
        → (sight now.disk).left_since (sight was.disk).moment bytes → FollowsSo trade before.sites provider bytes
    within before behind (inl same) sound stand seen provider was now is then bytes left =
        let one : now ≡ was =
        same_Some now was (sym then ∙ (ap (λ (s : State D). s.chronicles provider) same ∙ is))
        in still before provider was is seen (stand provider was is) bytes
        (only_now was.disk bytes
        (subst (λ (c : ChronicleState D). (sight c.disk).left_since (sight was.disk).moment bytes) one left))
    within before behind (inr moments) sound stand seen provider was now is then bytes left =
        let came = moments.came sound provider now then
        in let one : came.was ≡ was = same_Some came.was was (sym came.is ∙ is)
        in (came.moments (stand provider came.was came.is)).each bytes
        (subst (λ (c : ChronicleState D). (sight now.disk).left_since (sight c.disk).moment bytes) (sym one) left)

    pub killed_follows : (number : ℕ) (here there : State D) (steps : List (Step D)) → AllMoments trade sight here there steps
        → number ≤ length steps → Sound trade (state_at number here there steps).sites
        → AllStandIn sight (state_at number here there steps) → AreSeen (state_at number here there steps)
        → (provider : ℕ) (bytes : Bytes) → IsKilledIn sight number here there steps provider bytes
        → FollowsSo trade (state_at number here there steps).sites provider bytes
    killed_follows number here there steps all within_steps sound stand seen provider bytes killed =
        within (state_at number here there steps) (state_at (suc number) here there steps)
        (moment_at number here there steps all within_steps) sound stand seen provider killed.was killed.now killed.before
        killed.behind bytes killed.left

    -- what is found there fits together
    pub killed_fit : (number : ℕ) (here there : State D) (steps : List (Step D)) → AllMoments trade sight here there steps
        → number ≤ length steps → Sound trade (state_at number here there steps).sites
        → AllStandIn sight (state_at number here there steps) → AreSeen (state_at number here there steps)
        → ((one other : List Entry) (bytes : Bytes) → IsJournalOf one bytes → IsJournalOf other bytes → one ≡ other)
        → ((images : List (List Entry)) → length images ≡ trade.providers
        → ((provider : ℕ) → provider < trade.providers
        → FollowsState trade (state_at number here there steps).sites provider (slice_index_or images provider []))
        → Fit trade (journals_in images))
        → (journals : List (List Entry)) → length journals ≡ trade.providers
        → ((provider : ℕ) → provider < trade.providers → (bytes : Bytes)
        × IsKilledIn sight number here there steps provider bytes
        × IsJournalOf (slice_index_or journals provider []) bytes)
        → Fit trade (journals_in journals)
    killed_fit number here there steps all within_steps sound stand seen one_list any journals count found =
        any journals count (λ provider l.
        let this = found provider l
        in let follows = killed_follows number here there steps all within_steps sound stand seen provider this.0 this.1
        in subst (λ (list : List Entry). FollowsState trade (state_at number here there steps).sites provider list)
        (one_list follows.0 (slice_index_or journals provider []) this.0 follows.2 this.2) follows.1)

    -- ---- what was told

    holds_all : (sites : List Site) (provider : ℕ) (bytes : Bytes) → FollowsSo trade sites provider bytes
        → HoldsAll sites provider bytes
    holds_all sites provider bytes follows = record {
      more = chosen follows.1.choice (interrupted_at sites provider) ++ follows.1.further;
      journal = subst (λ (list : List Entry). IsJournalOf list bytes) follows.1.is follows.2;
    }

    pub told_kept : (phase : Phase) (number : ℕ) (here there : State D) (steps : List (Step D))
        → AllMoments trade sight here there steps → number ≤ length steps
        → Sound trade (state_at number here there steps).sites
        → AllStandIn sight (state_at number here there steps) → AreSeen (state_at number here there steps)
        → (provider : ℕ) (bytes : Bytes) → IsKilledAt sight phase number here there steps provider bytes
        → HoldsAll (state_at (number_told phase number) here there steps).sites provider bytes
    told_kept Playing number here there steps all within_steps sound stand seen provider bytes killed =
        holds_all _ provider bytes
        (killed_follows number here there steps all within_steps sound stand seen provider bytes killed)
    told_kept Writing number here there steps all within_steps sound stand seen provider bytes killed =
        let before = state_at number here there steps
        in let behind = state_at (suc number) here there steps
        in let moment = moment_at number here there steps all within_steps
        in holds_all _ provider bytes
        (still behind provider killed.0 killed.1 (seen_on before behind moment seen)
        (stands_on before behind moment sound stand provider killed.0 killed.1) bytes killed.2)

module _ (trade : Trade) (providers : List Provider) {D : Type 0} where
  -- the lines of one step more
  told_on : (number : ℕ) (here : State D) (steps : List (Step D))
      → told_before trade providers number here steps ++ lines_at trade providers number here steps
      ≡ told_before trade providers (suc number) here steps
  told_on zero here [] = refl
  told_on (suc number) here [] = refl
  told_on zero here (step ∷ steps) = sym (append-nil (text_by trade providers here.sites step.act step.luck))
  told_on (suc number) here (step ∷ steps) =
      append_assoc (text_by trade providers here.sites step.act step.luck)
      (told_before trade providers number step.behind steps) (lines_at trade providers number step.behind steps)
      ∙ ap (λ (t : Bytes). text_by trade providers here.sites step.act step.luck ++ t)
      (told_on number step.behind steps)

  pub told_front : (phase : Phase) (number : ℕ) (here : State D) (steps : List (Step D)) (before held : Option Bytes)
      → HasTold trade providers phase number here steps before held
      → WrotePart before held (told_before trade providers (number_told phase number) here steps)
  told_front Playing number here steps before held told = record {
    rest = [];
    wrote = record {
      done = told_before trade providers number here steps;
      held = told;
      text = sym (append-nil (told_before trade providers number here steps));
    };
  }
  told_front Writing number here steps before held told =
      subst (λ (t : Bytes). WrotePart before held t) (told_on number here steps)
      (wrote_more before held (told_before trade providers number here steps)
      (lines_at trade providers number here steps) told)
