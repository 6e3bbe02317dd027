-- What a call on one provider leaves of a network, by what it leaves of the provider.
use Rattle.std.proofs.Common.{◌≡◌, ℕ, zero, suc, ◌<◌, ◌≤◌, List, [], ◌∷◌, length, get_or, set, refl, ap, sym, subst, ◌∙◌, arith}
use Rattle.std.specs.Prelude.{Result}
use Rattle.std.proofs.lemmas.List.{get_or-set_same}
use Rattle.pec_types.specs.declared.turns.ProviderFault.{ProviderFault}
use Rattle.pec_outside.specs.DiskModel.{Sight}
use Rattle.pec_outside.specs.Flow.{HasRisen}
use Rattle.pec_directory.specs.Directory.{Kept}
use Rattle.pec_ledger.specs.Ledger.{Journals}
use Rattle.pec_ledger.specs.Network.{Site, journal_at, site_at}
use Rattle.pec_ledger.specs.Trade.{Trade}
use Rattle.pec_plays.specs.Commands.{Answer, Luck, Played}
use Rattle.pec_posts.specs.Arrivals.{Waiting, waiting_for}
use Rattle.pec_chronicle.specs.Carrying.{CarriesOn, NothingMay}
use Rattle.pec_chronicle.specs.Chronicle.{ChronicleState, Stands}
use Rattle.pec_provider.specs.Following.{MayFollow}
use Rattle.pec_provider.specs.Playing.{Plays, PlaysWith}
use Rattle.pec_provider.specs.Provider.{ProviderState, Runs, desk_of, site_of}
use Rattle.pec_provider.specs.Ticking.{Ticks}
use Rattle.pec_screen.specs.Verdicts.{Patterns}
use Rattle.pec_seal.specs.Seals.{Seals}
use Rattle.pec_network.specs.Carrying.{AllCarryOn, AllStand, NoneFalls}
use Rattle.pec_network.specs.Changing.{HasRisenAt, StandsAt}
use Rattle.pec_network.specs.Network.{IsOfDirectory, NetworkState, sites_of}
use Rattle.pec_network.specs.Playing.{IsPlayed}
use Rattle.pec_network.proofs.ProviderLemmas.{carries_at, falls_at, played_so, whole_at}
use Rattle.pec_network.proofs.SiteLemmas.{provider_changes, site_is}

-- a number of the directory is one of a provider
pub number_within : {D S : Type 0} {seals : Seals} (inside now : NetworkState D S) → inside ≡ now
    → IsOfDirectory inside.kept seals inside.providers inside.waiting → (number : ℕ) → number < length now.kept → number < length inside.providers
number_within {D} {S} inside now view whole number within =
    let count = whole.count in
    let same = ap (λ (n : NetworkState D S). length n.kept) view in
    omega arith

any_default : {X : Type 0} (list : List X) (number : ℕ) (one other : X) → number < length list → get_or list number one ≡ get_or list number other
any_default [] number one other l = absurd (omega arith)
any_default (x ∷ xs) zero one other l = refl
any_default (x ∷ xs) (suc number) one other l = any_default xs number one other (omega arith)

module _ {D : Type 0} (providers : List (ProviderState D)) (number : ℕ) (old new : ProviderState D) (within : number < length providers)
    (here : old ≡ get_or providers number old) where
  pub at_old : (other : ProviderState D) → get_or providers number other ≡ old
  at_old other = any_default providers number other old within ∙ sym here

  pub at_new : (other : ProviderState D) → get_or (set providers number new) number other ≡ new
  at_new other = get_or-set_same providers number new other within

  pub runs_from : {seals : Seals} (kept : List Kept) (waiting : List Waiting) → IsOfDirectory kept seals providers waiting → Runs kept seals number old
  runs_from {seals} kept waiting whole = subst (λ (p : ProviderState D). Runs kept seals number p) (at_old old) (whole.runs number old within)

  pub owed_from : {seals : Seals} (kept : List Kept) (waiting : List Waiting) → IsOfDirectory kept seals providers waiting → old.owed ≡ []
  owed_from kept waiting whole = ap (λ (p : ProviderState D). p.owed) here ∙ whole.nothing_owed number old within

  pub whole_from : {seals : Seals} (kept : List Kept) (waiting : List Waiting) → IsOfDirectory kept seals providers waiting → Runs kept seals number new → new.owed ≡ old.owed
      → IsOfDirectory kept seals (set providers number new) waiting
  whole_from kept waiting whole runs owed =
      whole_at providers number new within kept waiting whole runs (owed ∙ owed_from kept waiting whole)

  pub carries_from : (sight : D → Sight) (trade : Trade) (journals : Journals) → ((state : ChronicleState D) → CarriesOn sight NothingMay state state)
      → CarriesOn sight (MayFollow trade journals number) old.chronicle new.chronicle
      → AllCarryOn sight trade journals providers (set providers number new)
  carries_from sight trade journals rests carries = carries_at providers number new within sight trade journals rests
      (λ other. subst (λ (p : ProviderState D). CarriesOn sight (MayFollow trade journals number) p.chronicle new.chronicle) (sym (at_old other)) carries)

  pub falls_from : (count : D → ℕ) → count old.chronicle.disk ≤ count new.chronicle.disk → NoneFalls count providers (set providers number new)
  falls_from count later = falls_at providers number new within count
      (λ other. subst (λ (p : ProviderState D). count p.chronicle.disk ≤ count new.chronicle.disk) (sym (at_old other)) later)

  pub ticks_from : {X Y : Type 0} (trade : Trade) (moment steps later : ℕ) (result : Result X Y) → Ticks trade number moment old new steps later result
      → (other : ProviderState D) → Ticks trade number moment (get_or providers number other) (get_or (set providers number new) number other) steps later result
  ticks_from trade moment steps later result ticks other =
      subst (λ (p : ProviderState D). Ticks trade number moment p (get_or (set providers number new) number other) steps later result) (sym (at_old other))
      (subst (λ (p : ProviderState D). Ticks trade number moment old p steps later result) (sym (at_new other)) ticks)

  pub risen_from : (count : D → ℕ) → HasRisen (count old.chronicle.disk) (count new.chronicle.disk)
      → HasRisenAt count number providers (set providers number new)
  risen_from count risen = λ other.
      subst (λ (p : ProviderState D). HasRisen (count p.chronicle.disk) (count (get_or (set providers number new) number other).chronicle.disk))
      (sym (at_old other))
      (subst (λ (p : ProviderState D). HasRisen (count old.chronicle.disk) (count p.chronicle.disk)) (sym (at_new other)) risen)

  pub stands_from : (sight : D → Sight) → StandsAt sight number providers → Stands sight old.chronicle
  stands_from sight stands = subst (λ (p : ProviderState D). Stands sight p.chronicle) (at_old old) (stands old)

  -- so it is where all stand
  pub stands_of_all : (sight : D → Sight) → AllStand sight providers → Stands sight old.chronicle
  stands_of_all sight all = subst (λ (p : ProviderState D). Stands sight p.chronicle) (at_old old) (all number old within)

  -- its site
  pub there_from : (screens : List (List Patterns)) (waiting : List Waiting)
      → site_at (sites_of providers screens waiting) number
      ≡ site_of (desk_of old) (get_or screens number []) (waiting_for waiting number)
  there_from screens waiting =
      site_is providers screens waiting number old within
      ∙ ap (λ (p : ProviderState D). site_of (desk_of p) (get_or screens number []) (waiting_for waiting number)) (sym here)

  pub entries_from : (screens : List (List Patterns)) (waiting : List Waiting)
      → length (journal_at (sites_of providers screens waiting) number) ≡ length old.chronicle.entries
  entries_from screens waiting =
      ap (λ (s : Site). length s.journal) (there_from screens waiting)

  -- what is played on the provider, with its screens, is played on the network
  pub plays_with : {X : Type 0} (tells : X → Answer) (play : Luck → List Site → Played) (screens : List (List Patterns))
      (waiting : List Waiting) (r : Result X ProviderFault)
      → PlaysWith tells play number (get_or screens number []) (desk_of old) (desk_of new) r
      → IsPlayed tells (λ (luck : Luck). play luck (sites_of providers screens waiting)) (sites_of providers screens waiting)
      (sites_of (set providers number new) screens waiting) r
  plays_with tells play screens waiting r plays =
      let all = sites_of providers screens waiting in
      let links = waiting_for waiting number in
      played_so tells (λ (luck : Luck). play luck all) all (sites_of (set providers number new) screens waiting) number
      (site_of (desk_of new) (get_or screens number []) links) r
      (provider_changes providers screens waiting number new within) (plays all links (there_from screens waiting))

  -- and whatever its screens are
  pub plays_from : {X : Type 0} (tells : X → Answer) (play : Luck → List Site → Played) (screens : List (List Patterns))
      (waiting : List Waiting) (r : Result X ProviderFault) → Plays tells play number (desk_of old) (desk_of new) r
      → IsPlayed tells (λ (luck : Luck). play luck (sites_of providers screens waiting)) (sites_of providers screens waiting)
      (sites_of (set providers number new) screens waiting) r
  plays_from tells play screens waiting r plays =
      plays_with tells play screens waiting r (plays (get_or screens number []))
