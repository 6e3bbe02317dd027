-- What the lines of the part take is what is marked more so far, and what the lines that are left take.
use Rattle.std.proofs.Common.{◌≡◌, ℕ, ◌<◌, ◌||◌, length}
use Rattle.std.specs.List.{list_any}
use Rattle.pec_bodies.specs.Composing.{all_lines, begins, boundary_number}
use Rattle.pec_bodies.specs.Marks.{dashed}
use Rattle.pec_bodies.specs.Numbers.{is_marked}
use Rattle.pec_bodies.proofs.numbers.mark_part.Given as goal

abbrev pub invariant-loop-line : goal.invariant-loop-line
invariant-loop-line l =
    (k : ℕ) → k < length l.marks
    → (is_marked l.marks k || list_any (begins (dashed (boundary_number k))) (all_lines l.rest))
    ≡ (is_marked l.initial.marks k || list_any (begins (dashed (boundary_number k))) (all_lines l.part))

abbrev pub decreases-loop-line : goal.decreases-loop-line
decreases-loop-line l = length l.rest
