-- How often screens look, from call to call.
use Rattle.std.proofs.Common.{◌≡◌, inl, inr, ℕ, zero, suc, ◌+◌, Bool, true, false, List, [], ◌∷◌, map, ap, ◌∙◌, arith}
use Rattle.std.proofs.Common.{Option, Some, None, Ok, Err}
use Rattle.std.specs.Prelude.{Result, if◌then◌else◌}
use Rattle.pec_types.specs.declared.turns.ProviderFault.{ProviderFault}
use Rattle.pec_types.specs.declared.turns.ProviderFault.TheVariants as faults
use Rattle.pec_records.specs.declared.entries.Entry.{Entry}
use Rattle.pec_ledger.specs.Pairs.{Pair}
use Rattle.pec_ledger.specs.Trade.{Trade}
use Rattle.pec_screen.specs.Verdicts.{counted}
use Rattle.pec_provider.specs.Looking.{LooksAt, LooksBehind, LooksNext}
use Rattle.pec_network.specs.Looking.{LookAlike, counted_times}

counted_more : (times more : ℕ) (seen : List ℕ)
    → counted_times more (counted_times times seen) ≡ counted_times (times + more) seen
counted_more zero more seen =
    let none : more ≡ 0 + more = omega arith in
    ap (λ (n : ℕ). counted_times n seen) none
counted_more (suc times) more seen =
    let one : suc (times + more) ≡ suc times + more = omega arith in
    counted_more times more (map counted seen) ∙ ap (λ (n : ℕ). counted_times n seen) one

-- none has looked
pub none_looked : (before after : List ℕ) → after ≡ before → LookAlike before after
none_looked before after same = record { times = 0; is = same }

-- they have looked, and then again
pub looked_again : (before between after : List ℕ) → LookAlike before between → LookAlike between after
    → LookAlike before after
looked_again before between after first second = record {
  times = first.times + second.times;
  is = second.is ∙ ap (λ (seen : List ℕ). counted_times second.times seen) first.is
      ∙ counted_more first.times second.times before;
}

-- ---- as a pair is decided

looked_if : (account : Bool) (before after : List ℕ) → after ≡ (if account then map counted before else before)
    → LookAlike before after
looked_if true before after is = record { times = 1; is = is }
looked_if false before after is = record { times = 0; is = is }

module _ (trade : Trade) (me : ℕ) where
  looked_at : (pairs : List Pair) (before after : List ℕ) → LooksAt trade me pairs before after → LookAlike before after
  looked_at [] before after is = none_looked before after is
  looked_at (pair ∷ pairs) before after is = looked_if (trade.is_account me pair.recipient) before after is

  looked_by : (interrupted : Option Entry) (pairs : List Pair) (before after : List ℕ)
      → LooksBehind trade me pairs interrupted before after → LookAlike before after
  looked_by None pairs before after is = none_looked before after is
  looked_by (Some entry) pairs before after is = looked_at pairs before after is

  pub looked_next : {X : Type 0} (pairs : List Pair) (interrupted : Option Entry) (before after : List ℕ)
      (r : Result X ProviderFault) → LooksNext trade me pairs interrupted before after r → LookAlike before after
  looked_next pairs interrupted before after (Ok x) looks = looked_at pairs before after looks
  looked_next pairs interrupted before after (Err faults.JournalFull) looks = looked_at pairs before after looks
  looked_next pairs interrupted before after (Err faults.DiskFault) looks = looked_by interrupted pairs before after looks
  looked_next pairs interrupted before after (Err faults.NoMemory) looks = elim looks [
    | inl same ↦ none_looked before after same
    | inr looked ↦ looked_at pairs before after looked
  ]
  looked_next pairs interrupted before after (Err faults.Down) looks = none_looked before after looks
  looked_next pairs interrupted before after (Err (faults.ClockBack moment)) looks = none_looked before after looks
  looked_next pairs interrupted before after (Err faults.NoAccount) looks = none_looked before after looks
  looked_next pairs interrupted before after (Err faults.Full) looks = none_looked before after looks
  looked_next pairs interrupted before after (Err faults.NoItem) looks = none_looked before after looks
  looked_next pairs interrupted before after (Err (faults.Changed which)) looks = none_looked before after looks
  looked_next pairs interrupted before after (Err faults.OldJournal) looks = none_looked before after looks
  looked_next pairs interrupted before after (Err faults.NoNeed) looks = none_looked before after looks
