-- A text is read exactly: its tables and the walk are tied.
use Rattle.std.proofs.Common.{◌≡◌, ap, codes, List, Result, Ok, Err}
use Rattle.toml.specs.Data.{Data, get}
use Rattle.pec_types.specs.Answers.{Gives, ReadsExactly, TellsExactly, seen_as, told_is_read}
use Rattle.pec_types.specs.Bytes.{Bytes}
use Rattle.pec_directory.specs.Directory.{Kept, providers_of}
use Rattle.pec_directory.specs.Faults.{IsDirectoryFault, IsTableFault}
use Rattle.pec_directory.specs.Tables.{IsDirectory, IsOfTable}
use Rattle.pec_directory.specs.Walk.{directory_in, directory_of, providers_in, tables_in}
use Rattle.pec_directory.specs.declared.faults.DirectoryFault.{DirectoryFault}
use Rattle.pec_directory.specs.declared.faults.DirectoryFault.TheVariants.{NoMemory}
use Rattle.pec_directory.proofs.AddressLaws.{AddressLaws}
use Rattle.pec_directory.proofs.FaultLemmas.{fault_told, table_told}
use Rattle.pec_directory.proofs.LawfulLemmas.{directory_so, table_so}
use Rattle.pec_directory.proofs.TableLemmas.{directory_again, table_again}

abbrev pub DirectoriesTold : Type 0
DirectoriesTold = (text : Bytes) → TellsExactly (IsDirectory text) (IsDirectoryFault text) (directory_of text)

pub told : AddressLaws → DirectoriesTold
told laws text = record { value = λ providers. (directory_so laws text providers, directory_again text providers); fault = fault_told laws text }

pub reads : DirectoriesTold → (text : Bytes) (answer : Result (List Kept) DirectoryFault) → Gives NoMemory providers_of answer (directory_of text)
    → ReadsExactly (IsDirectory text) (IsDirectoryFault text) NoMemory (seen_as providers_of answer)
reads tells text (Ok kept) same = told_is_read (IsDirectory text) (IsDirectoryFault text) NoMemory (Ok (providers_of kept)) (directory_of text) (tells text) same
reads tells text (Err fault) same = told_is_read (IsDirectory text) (IsDirectoryFault text) NoMemory (Err fault) (directory_of text) (tells text) same

-- ---- tables

abbrev pub TablesTold : Type 0
TablesTold = (whole : Data) → TellsExactly (IsOfTable whole) (IsTableFault whole) (directory_in whole)

pub tables_told : AddressLaws → TablesTold
tables_told laws whole = record { value = λ providers. (table_so laws whole providers, table_again whole providers); fault = table_told laws whole }

pub table_reads : TablesTold → (whole : Data) (answer : Result (List Kept) DirectoryFault) → Gives NoMemory providers_of answer (directory_in whole)
    → ReadsExactly (IsOfTable whole) (IsTableFault whole) NoMemory (seen_as providers_of answer)
table_reads tells whole (Ok kept) same = told_is_read (IsOfTable whole) (IsTableFault whole) NoMemory (Ok (providers_of kept)) (directory_in whole) (tells whole) same
table_reads tells whole (Err fault) same = told_is_read (IsOfTable whole) (IsTableFault whole) NoMemory (Err fault) (directory_in whole) (tells whole) same

same_providers : (whole other : Data) → get (codes "provider") whole ≡ get (codes "provider") other → providers_in whole ≡ providers_in other
unfolding providers_in
same_providers whole other same = ap tables_in same

pub looks_up : (whole other : Data) → get (codes "provider") whole ≡ get (codes "provider") other → directory_in whole ≡ directory_in other
unfolding directory_in
looks_up whole other same = rw (same_providers whole other same)
