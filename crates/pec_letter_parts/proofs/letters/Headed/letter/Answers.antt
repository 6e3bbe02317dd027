-- What was read is what `letter_in` tells, and so what is behind the head.
use Rattle.pec_types.specs.declared.disputes.LetterFault.TheVariants as faults
use Rattle.pec_letter_parts.specs.Letters.{IsLetterIn, IsUnreadIn}
use Rattle.pec_letter_parts.specs.LettersReading.{letter_in}
use Rattle.pec_letter_parts.specs.Told.{gives_read}
use Rattle.pec_letter_parts.specs.Views.{headed_shown, letter_shown}
use Rattle.pec_letter_parts.proofs.letters.Headed.letter.Goals as goal

pub returns-clause-reads : goal.returns-clause-reads
returns-clause-reads c =
    let read = headed_shown c.args.self
    in gives_read (IsLetterIn read) (IsUnreadIn read) faults.NoMemory letter_shown c.read_letter.result (letter_in read) (c.a_head_has_one_letter.ensures read) c.read_letter.ensures
