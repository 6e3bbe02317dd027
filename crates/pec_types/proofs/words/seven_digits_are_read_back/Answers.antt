-- The law of seven digits, from the lemmas.
use Rattle.pec_types.proofs.DigitLaws.{digits_back, are_seven}
use Rattle.pec_types.proofs.words.seven_digits_are_read_back.Goals as goal

pub returns-clause-number : goal.returns-clause-number
returns-clause-number c = digits_back

pub returns-clause-seven : goal.returns-clause-seven
returns-clause-seven c = are_seven
