use Rattle.pec_types.specs.Answers.{told_is_read}
use Rattle.pec_types.specs.declared.disputes.LetterFault.TheVariants as faults
use Rattle.pec_directory.specs.Directory.{providers_of}
use Rattle.pec_check.specs.Genuine.{IsGenuine, IsRefused}
use Rattle.pec_check.specs.GenuineReading.{report_of}
use Rattle.pec_check.specs.declared.checking.CheckFault.TheVariants as checks
use Rattle.pec_check.proofs.checking.check.Goals as goal

pub returns-clause-reads : goal.returns-clause-reads
returns-clause-reads g c =
    let seals = g.S.Sealer.seals c.args.sealer.now
    in let providers = providers_of c.args.directory.now
    in let text = c.args.message.now
    in told_is_read (IsGenuine seals providers text) (IsRefused seals providers text) (checks.Letter faults.NoMemory) c.judge.result
    (report_of seals providers text) (c.a_text_is_one_report.ensures c.args.sealer.now providers text) c.judge.ensures
