-- What was read is what `headed_of` tells, and so what is read of the text.
use Rattle.pec_types.specs.declared.disputes.LetterFault.TheVariants as faults
use Rattle.pec_letter_parts.specs.Letters.{IsHeaded, IsUnheaded}
use Rattle.pec_letter_parts.specs.LettersReading.{headed_of}
use Rattle.pec_letter_parts.specs.Told.{gives_read}
use Rattle.pec_letter_parts.specs.Views.{headed_shown}
use Rattle.pec_letter_parts.proofs.letters.Headed.read.Goals as goal

pub returns-clause-reads : goal.returns-clause-reads
returns-clause-reads g c =
    let seals = g.S.Sealer.seals c.args.sealer.now
    in let text = c.args.text.now
    in gives_read (IsHeaded seals text) (IsUnheaded seals text) faults.NoMemory headed_shown c.read_headed.result (headed_of seals text)
    (c.a_text_is_one_letter.ensures.headed c.args.sealer.now text) c.read_headed.ensures
