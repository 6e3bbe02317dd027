-- What the text spells is what is marked more so far, and what number and the digits that are left spell.
use Rattle.std.proofs.Common.{◌≡◌, ℕ, ◌<◌, ◌≤◌, ◌||◌, length, drop}
use Rattle.std.specs.Fmt.{decimal}
use Rattle.pec_bodies.specs.Composing.{begins}
use Rattle.pec_bodies.specs.Numbers.{is_marked}
use Rattle.pec_bodies.proofs.NumberLaws.{spells_behind}
use Rattle.pec_bodies.proofs.numbers.mark_fronts.Given as goal

abbrev pub invariant-loop-byte : goal.invariant-loop-byte
invariant-loop-byte l =
    (l.number ≤ length l.marks)
    × ((k : ℕ) → k < length l.marks → (is_marked l.marks k || spells_behind l.number (drop l.byte-index l.text) k) ≡ (is_marked l.initial.marks k || begins (decimal k) l.text))
