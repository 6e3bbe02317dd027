-- What is told exactly, and answered as it is told, is read exactly.
use Rattle.pec_directory.specs.Directory.{providers_of}
use Rattle.pec_types.specs.Answers.{told_is_read}
use Rattle.pec_script.specs.Lines.{IsCommand, IsLineFault}
use Rattle.pec_script.specs.LinesReading.{command_of}
use Rattle.pec_script.specs.declared.faults.LineFault.TheVariants.{NoMemory}
use Rattle.pec_script.proofs.commands.Command.read.Goals as goal

pub returns-clause-reads : goal.returns-clause-reads
returns-clause-reads c =
    let providers = providers_of c.args.directory.now in
    let line = c.args.line.now in
    told_is_read (IsCommand providers line) (IsLineFault providers line) NoMemory c.read_line.result (command_of providers line)
    (c.a_line_has_one_reading.ensures providers line) c.read_line.ensures
