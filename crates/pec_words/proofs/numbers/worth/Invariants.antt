use Rattle.std.proofs.Common.{◌≡◌, drop}
use Rattle.pec_words.specs.NumberSteps.{with_digits}
use Rattle.pec_words.proofs.numbers.worth.Given as goal

abbrev pub invariant-loop-digit : goal.invariant-loop-digit
invariant-loop-digit l = with_digits l.number (drop l.digit-index l.digits) ≡ with_digits 0 l.digits
