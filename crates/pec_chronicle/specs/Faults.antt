-- What the journal's faults are to whoever opens or reads entries. This project's profile.
use Rattle.pec_journal.specs.declared.faults.OpenFault as journal
use Rattle.pec_journal.specs.declared.faults.OpenFault.TheVariants as journals
use Rattle.pec_journal.specs.declared.faults.ReadFault.{ReadFault}
use Rattle.pec_journal.specs.declared.faults.ReadFault.TheVariants as reads
use Rattle.pec_chronicle.specs.declared.faults.OpenFault.{OpenFault}
use Rattle.pec_chronicle.specs.declared.faults.OpenFault.TheVariants as faults
use Rattle.pec_chronicle.specs.declared.faults.ReadFault as own
use Rattle.pec_chronicle.specs.declared.faults.ReadFault.TheVariants as owns

abbrev pub opened_as : journal.OpenFault → OpenFault
opened_as journals.DiskFault = faults.DiskFault
opened_as (journals.NotAJournal place) = faults.NotAJournal place
opened_as journals.NoMemory = faults.NoMemory

abbrev pub read_as : ReadFault → OpenFault
read_as reads.DiskFault = faults.DiskFault
read_as reads.NoMemory = faults.NoMemory

abbrev pub kept_as : ReadFault → own.ReadFault
kept_as reads.DiskFault = owns.DiskFault
kept_as reads.NoMemory = owns.NoMemory
