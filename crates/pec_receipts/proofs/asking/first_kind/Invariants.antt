-- A letter is of none of the kinds so far, so that the first is among those that are left.
use Rattle.std.proofs.Common.{◌≡◌, drop, find}
use Rattle.pec_letter_parts.specs.Views.{letter_shown}
use Rattle.pec_receipts.specs.Seen.{is_of}
use Rattle.pec_receipts.proofs.asking.first_kind.Given as goal

abbrev pub invariant-loop-kind : goal.invariant-loop-kind
invariant-loop-kind l = find (is_of (letter_shown l.letter)) (drop l.kind-index l.kinds) ≡ find (is_of (letter_shown l.letter)) l.kinds
