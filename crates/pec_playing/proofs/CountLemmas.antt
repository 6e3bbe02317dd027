-- Counts of faults by the numbers of providers, from one state of a network to the next.
use Rattle.std.proofs.Common.{◌≡◌, ℕ, ◌<◌, ◌≤◌, ◌==◌, inl, inr, Bool, true, false, List, length, get_or, refl, ap}
use Rattle.std.proofs.Common.{subst, arith, Option}
use Rattle.std.specs.Prelude.{if◌then◌else◌}
use Rattle.std.proofs.lemmas.Bool.{eqb-true}
use Rattle.std.proofs.lemmas.Option.{slice_get-get_or, slice_get_cases, slice_get_past}
use Rattle.pec_types.specs.declared.turns.ProviderFault.{ProviderFault}
use Rattle.pec_types.specs.declared.turns.ProviderFault.TheVariants as faults
use Rattle.pec_plays.specs.Commands.{Refuses}
use Rattle.pec_network.specs.OfProviders.{ProviderState}
use Rattle.pec_network.specs.Carrying.{NoneFalls}
use Rattle.pec_network.specs.Changing.{HasRisenAt}
use Rattle.pec_runs.specs.Plays.{RoseBy, faults_at}
use Rattle.pec_playing.specs.Playing.{count_or, counts_in}

pub rose_none : (before now number : ℕ) → before ≤ now → number ≡ 0 → RoseBy number before now
rose_none before now number later none = (later, λ below. omega (arith, later, none))

module _ {D : Type 0} (count : D → ℕ) (old new : List (ProviderState D)) (many : length new ≡ length old)
    (elsewhere : ℕ → ℕ)
    (falls : NoneFalls count old new) where
  abbrev before : ℕ → ℕ
  before = counts_in count old elsewhere

  abbrev now : ℕ → ℕ
  now = counts_in count new elsewhere

  count_at : (providers : List (ProviderState D)) (number : ℕ) (other : ProviderState D) → number < length providers
      → counts_in count providers elsewhere number ≡ count (get_or providers number other).chronicle.disk
  count_at providers number other within =
      ap (λ (o : Option (ProviderState D)). count_or count (elsewhere number) o)
      (slice_get-get_or providers number other within)

  count_past : (providers : List (ProviderState D)) (number : ℕ) → length providers ≤ number
      → counts_in count providers elsewhere number ≡ elsewhere number
  count_past providers number past =
      ap (λ (o : Option (ProviderState D)). count_or count (elsewhere number) o) (slice_get_past providers number past)

  pub counts_later : (number : ℕ) → before number ≤ now number
  counts_later number = elim (slice_get_cases old number).1 [
    | inl there ↦
        omega (
          arith,
          count_at old number there.0 there.1,
          count_at new number there.0 (omega (arith, many, there.1)),
          falls number there.0 there.1,
        )
    | inr past ↦
        omega (arith, count_past old number past.0, count_past new number (omega (arith, many, past.0)))
  ]

  pub counts_stay : (number told : ℕ) → told ≡ 0 → RoseBy told (before number) (now number)
  counts_stay number told none = rose_none (before number) (now number) told (counts_later number) none

  pub counts_rose : (number : ℕ) → number < length old → HasRisenAt count number old new
      → RoseBy 1 (before number) (now number)
  counts_rose number within rose = (
    counts_later number,
    λ below. elim (slice_get_cases old number).1 [
      | inl there ↦
          let a = count_at old number there.0 within in
          let b = count_at new number there.0 (omega (arith, many, within)) in
          let later = counts_later number in
          let more = rose there.0 (omega (arith, a, later, below)) in
          omega (arith, a, b, more)
      | inr past ↦ absurd (omega (arith, within, past.0))
    ],
  )

  -- what a refusal of one provider tells of the disk of another, or of its own
  abbrev one_if : Bool → ℕ
  one_if b = if b then 1 else 0

  counts_own : (asked number : ℕ) → asked < length old → HasRisenAt count asked old new → (b : Bool) →
      (asked == number) ≡ b
      → RoseBy (one_if b) (before number) (now number)
  counts_own asked number within rose true is =
      subst (λ (n : ℕ). RoseBy 1 (before n) (now n)) (eqb-true asked number is) (counts_rose asked within rose)
  counts_own asked number within rose false is = counts_stay number 0 refl

  pub counts_of_refusal : (asked : ℕ) → asked < length old → (fault : ProviderFault)
      → (fault ≡ faults.DiskFault → HasRisenAt count asked old new)
      → (number : ℕ) → RoseBy (faults_at number asked (Refuses fault)) (before number) (now number)
  counts_of_refusal asked within faults.DiskFault rose number =
      counts_own asked number within (rose refl) (asked == number) refl
  counts_of_refusal asked within faults.Down rose number = counts_stay number 0 refl
  counts_of_refusal asked within (faults.ClockBack last) rose number = counts_stay number 0 refl
  counts_of_refusal asked within faults.NoAccount rose number = counts_stay number 0 refl
  counts_of_refusal asked within faults.Full rose number = counts_stay number 0 refl
  counts_of_refusal asked within faults.NoItem rose number = counts_stay number 0 refl
  counts_of_refusal asked within faults.JournalFull rose number = counts_stay number 0 refl
  counts_of_refusal asked within faults.OldJournal rose number = counts_stay number 0 refl
  counts_of_refusal asked within faults.NoNeed rose number = counts_stay number 0 refl
  counts_of_refusal asked within faults.NoMemory rose number = counts_stay number 0 refl
  counts_of_refusal asked within (faults.Changed entry) rose number = counts_stay number 0 refl
