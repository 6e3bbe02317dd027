-- A letter is a notice for none of the causes so far, so that the first is among those that are left.
use Rattle.std.proofs.Common.{◌≡◌, drop, find, map}
use Rattle.pec_types.specs.declared.receipts.Kind.TheVariants as kinds
use Rattle.pec_letter_parts.specs.Views.{letter_shown}
use Rattle.pec_receipts.specs.Seen.{is_of}
use Rattle.pec_receipts.proofs.asking.refused_kind.Given as goal

abbrev pub invariant-loop-cause : goal.invariant-loop-cause
invariant-loop-cause l =
    find (is_of (letter_shown l.letter)) (map kinds.NonAcceptance (drop l.cause-index l.causes))
    ≡ find (is_of (letter_shown l.letter)) (map kinds.NonAcceptance l.causes)
