-- What the function tells exactly is read exactly.
use Rattle.pec_types.specs.Answers.{told_is_read}
use Rattle.pec_types.specs.declared.disputes.LetterFault.TheVariants.{NoMemory}
use Rattle.pec_directory.specs.Directory.{providers_of}
use Rattle.pec_receipts.specs.Seen.{IsSeen, IsUnseen}
use Rattle.pec_receipts.specs.SeenReading.{view}
use Rattle.pec_receipts.proofs.reading.read.Goals as goal

pub returns-clause-reads : goal.returns-clause-reads
returns-clause-reads g c =
    let seals = g.S.Sealer.seals c.args.sealer.now
    in let providers = providers_of c.args.directory.now
    in told_is_read (IsSeen seals providers c.args.message.now) (IsUnseen seals providers c.args.message.now) NoMemory c.see.result
    (view seals providers c.args.message.now) (c.a_text_is_one_receipt.ensures c.args.sealer.now providers c.args.message.now) c.see.ensures
