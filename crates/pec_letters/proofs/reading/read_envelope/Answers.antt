-- What is seen is what `view` tells, and so what the text is.
use Rattle.pec_types.specs.declared.disputes.LetterFault.TheVariants as faults
use Rattle.pec_directory.specs.Directory.{providers_of}
use Rattle.pec_letter_parts.specs.Told.{gives_read}
use Rattle.pec_letters.specs.Seen.{IsSeen, IsUnseen}
use Rattle.pec_letters.specs.SeenReading.{view}
use Rattle.pec_letters.specs.Views.{view_shown}
use Rattle.pec_letters.proofs.reading.read_envelope.Goals as goal

pub returns-clause-reads : goal.returns-clause-reads
returns-clause-reads g c =
    let seals = g.S.Sealer.seals c.args.sealer.now
    in let providers = providers_of c.args.directory.now
    in let text = c.args.message.now
    in gives_read (IsSeen seals providers text) (IsUnseen seals providers text) faults.NoMemory view_shown c.view_text.result (view seals providers text)
    (c.a_text_is_one_envelope.ensures.told c.args.sealer.now providers text) c.view_text.ensures
