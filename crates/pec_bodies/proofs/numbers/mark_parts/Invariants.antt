-- What the parts take is what is marked more so far, and what the parts that are left take.
use Rattle.std.proofs.Common.{◌≡◌, ℕ, ◌<◌, ◌||◌, length, map, drop}
use Rattle.pec_bodies.specs.Composing.{boundary_number, boundary_taken}
use Rattle.pec_bodies.specs.Numbers.{is_marked}
use Rattle.pec_bodies.proofs.numbers.mark_parts.Given as goal

abbrev pub invariant-loop-part : goal.invariant-loop-part
invariant-loop-part l =
    (k : ℕ) → k < length l.marks
    → (is_marked l.marks k || boundary_taken (boundary_number k) (map (λ part. part.now) (drop l.part-index l.parts))) ≡ (is_marked l.initial.marks k || boundary_taken (boundary_number k) (map (λ part. part.now) l.parts))
