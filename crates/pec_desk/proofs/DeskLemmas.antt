-- What the desk's calls say of counts of faults, of refusals, and of what is shown.
use Rattle.std.proofs.Common.{◌≡◌, inl, inr, ℕ, ◌<◌, ◌≤◌, List, length, get_or, ap, Option, Some, None, Err, arith}
use Rattle.std.specs.Prelude.{slice_get}
use Rattle.std.proofs.lemmas.Option.{slice_get-get_or, slice_get_cases}
use Rattle.pec_outside.specs.Flow.{HasRisen}
use Rattle.pec_types.specs.Bytes.{Bytes}
use Rattle.pec_types.specs.declared.turns.ProviderFault.{ProviderFault}
use Rattle.pec_types.specs.declared.turns.ProviderFault.TheVariants as faults
use Rattle.pec_ledger.specs.Network.{Site}
use Rattle.pec_plays.specs.Commands.{Answer, Played}
use Rattle.pec_network.specs.OfProviders.{ProviderState}
use Rattle.pec_network.specs.Carrying.{NoneFalls}
use Rattle.pec_network.specs.Changing.{ChangesOnly, HasRisenAt}
use Rattle.pec_network.specs.Network.{NetworkState}
use Rattle.pec_network.specs.Playing.{IsShown}
use Rattle.pec_desk.specs.Desks.{IsSeen, count_at, count_in}

-- ---- counts of faults

module _ {D : Type 0} (count : D → ℕ) where
  at_is : (all : List (ProviderState D)) (number : ℕ) (other : ProviderState D) → number < length all
      → count_at count all (Some number) ≡ count (get_or all number other).chronicle.disk
  at_is all number other within =
      ap (λ (o : Option (ProviderState D)). count_in count o) (slice_get-get_or all number other within)

  at_none : (all : List (ProviderState D)) (number : ℕ) → slice_get all number ≡ None → count_at count all (Some number) ≡ 0
  at_none all number none = ap (λ (o : Option (ProviderState D)). count_in count o) none

  pub counts_stay_or_rise : (old new : List (ProviderState D)) → length new ≡ length old → NoneFalls count old new
      → (home : Option ℕ) → count_at count old home ≤ count_at count new home
  counts_stay_or_rise old new many falls None = omega arith
  counts_stay_or_rise old new many falls (Some number) = elim (slice_get_cases old number).1 [
    | inl there ↦ omega (
      arith,
      falls number there.0 there.1,
      at_is old number there.0 there.1,
      at_is new number there.0 (omega (arith, there.1, many)),
    )
    | inr past ↦ omega (arith, at_none old number past.1)
  ]

  pub count_rises : (old new : List (ProviderState D)) → length new ≡ length old → (number : ℕ) → number < length old
      → HasRisenAt count number old new → HasRisen (count_at count old (Some number)) (count_at count new (Some number))
  count_rises old new many number within risen = elim (slice_get_cases old number).1 [
    | inl there ↦ λ low. omega (
      arith,
      risen there.0 (omega (arith, low, at_is old number there.0 within)),
      at_is old number there.0 within,
      at_is new number there.0 (omega (arith, within, many)),
    )
    | inr past ↦ absurd (omega (arith, past.0, within))
  ]

-- nothing but one provider is another
pub kept_stays : {D S : Type 0} (old new : NetworkState D S) (number : ℕ) → number < length old.providers
    → ChangesOnly number old new → new.kept ≡ old.kept
kept_stays {D} {S} old new number within only = elim (slice_get_cases old.providers number).1 [
  | inl there ↦ ap (λ (n : NetworkState D S). n.kept) (only there.0)
  | inr past ↦ absurd (omega (arith, past.0, within))
]

-- ---- what is shown

module _ {X V : Type 0} (seen : V → X) (tells : X → Answer) (text : X → Bytes) (asked : Played) (state : List Site) where
  pub seen_refused : (fault : ProviderFault) → IsShown (λ (v : V). tells (seen v)) asked state (Err fault)
      → IsSeen tells text asked state (Err fault)
  seen_refused faults.NoMemory shown = tt
  seen_refused faults.DiskFault shown = shown
  seen_refused faults.Down shown = shown
  seen_refused (faults.ClockBack last) shown = shown
  seen_refused faults.NoAccount shown = shown
  seen_refused faults.Full shown = shown
  seen_refused faults.NoItem shown = shown
  seen_refused faults.JournalFull shown = shown
  seen_refused faults.OldJournal shown = shown
  seen_refused faults.NoNeed shown = shown
  seen_refused (faults.Changed number) shown = shown

pub sealer_stays : {D S : Type 0} (old new : NetworkState D S) (number : ℕ) → number < length old.providers
    → ChangesOnly number old new → new.sealer ≡ old.sealer
sealer_stays {D} {S} old new number within only = elim (slice_get_cases old.providers number).1 [
  | inl there ↦ ap (λ (n : NetworkState D S). n.sealer) (only there.0)
  | inr past ↦ absurd (omega (arith, past.0, within))
]
