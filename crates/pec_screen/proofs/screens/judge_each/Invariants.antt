use Rattle.std.proofs.Common.{◌≡◌, ℕ, ◌<◌, ◌≤◌, length, IfSome, Some, None, slice_index_or}
use Rattle.pec_screen.specs.VerdictReading.{rule_in}
use Rattle.pec_screen.specs.Verdicts.{Patterns, counted}
use Rattle.pec_screen.proofs.screens.judge_each.Given as goal

-- the boxes below the place have looked once, those from it on are as they were, and what was found is of the first box
-- below it that found
abbrev pub invariant-loop-place : goal.invariant-loop-place
invariant-loop-place g l =
    let patterns : (b : _) → Patterns = λ b. (goal.Screen-dyn g (b.vtable, b.value)).patterns b.value in
    let seen : (b : _) → ℕ = λ b. (goal.Screen-dyn g (b.vtable, b.value)).seen b.value in
    record {
      same_length : length l.boxes ≡ length l.fn.boxes;
      same_patterns : (k : ℕ) (d : _) → k < length l.fn.boxes → patterns (slice_index_or l.boxes k d) ≡ patterns (slice_index_or l.fn.boxes k d);
      asked : (k : ℕ) (d : _) → k < l.place → seen (slice_index_or l.boxes k d) ≡ counted (seen (slice_index_or l.fn.boxes k d));
      later : (k : ℕ) (d : _) → l.place ≤ k → k < length l.fn.boxes → seen (slice_index_or l.boxes k d) ≡ seen (slice_index_or l.fn.boxes k d);
      some_found : IfSome l.found (λ found. (found.0 < l.place)
          × ((d : _) → rule_in (patterns (slice_index_or l.fn.boxes found.0 d)) l.message ≡ Some found.1)
          × ((k : ℕ) (d : _) → k < found.0 → rule_in (patterns (slice_index_or l.fn.boxes k d)) l.message ≡ None));
      none_found : l.found ≡ None → (k : ℕ) (d : _) → k < l.place → rule_in (patterns (slice_index_or l.fn.boxes k d)) l.message ≡ None;
    }
