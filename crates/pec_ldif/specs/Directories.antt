-- A text of LDIF that is a directory, `IsLdifDirectory`, and why a text is none, `IsLdifRefusal`: all faults of the text
-- come before those of its table. `directory_in_ldif` is the same as a function. This project's profile.
use Rattle.std.specs.Prelude.{List, Result, Ok, Err}
use Rattle.pec_types.specs.Bytes.{Bytes}
use Rattle.pec_types.specs.Results.{◌>>=◌}
use Rattle.pec_directory.specs.Directory.{Provider}
use Rattle.pec_directory.specs.Faults.{IsTableFault}
use Rattle.pec_directory.specs.Tables.{IsOfTable}
use Rattle.pec_directory.specs.Walk.{directory_in}
use Rattle.pec_directory.specs.declared.faults.DirectoryFault.{DirectoryFault}
use Rattle.pec_directory.specs.declared.faults.DirectoryFault.TheVariants as faults
use Rattle.pec_ldif.specs.Records.{Entry, IsLdif, IsLdifFault}
use Rattle.pec_ldif.specs.RecordsReading.{ldif_of_text}
use Rattle.pec_ldif.specs.Tables.{table_of}
use Rattle.pec_ldif.specs.declared.faults.LdifFault.{LdifFault}
use Rattle.pec_ldif.specs.declared.faults.LdifFault.TheVariants as ldif
use Rattle.pec_ldif.specs.declared.refusals.LdifRefused.{LdifRefused}
use Rattle.pec_ldif.specs.declared.refusals.LdifRefused.TheVariants.{Ldif, Directory, NoMemory}

-- The text is LDIF, and the table of its records says these providers, which are lawful.
pub record IsLdifDirectory (text : Bytes) (providers : List Provider) : Type 0 where
  pub entries : List Entry
  pub is_ldif : IsLdif text entries
  pub is_table : IsOfTable (table_of entries) providers

-- The text isn't LDIF and has this fault, or it is, and the table of its records has this one.
abbrev pub IsLdifRefusal : Bytes → LdifRefused → Type 0
IsLdifRefusal text (Ldif fault) = IsLdifFault text fault
IsLdifRefusal text (Directory fault) =
    (entries : List Entry) × IsLdif text entries × IsTableFault (table_of entries) fault
IsLdifRefusal text NoMemory = ⊥

-- ---- as a function

-- what the text has, or its fault
abbrev pub of_text : {A : Type 0} → Result A LdifFault → Result A LdifRefused
of_text (Ok value) = Ok value
of_text (Err fault) = Err (Ldif fault)

-- what the table has, or its fault
abbrev pub of_table : {A : Type 0} → Result A DirectoryFault → Result A LdifRefused
of_table (Ok value) = Ok value
of_table (Err fault) = Err (Directory fault)

-- The providers that a text of LDIF says, or why it says none.
unfoldable pub directory_in_ldif : Bytes → Result (List Provider) LdifRefused
directory_in_ldif text = of_text (ldif_of_text text) >>= λ entries. of_table (directory_in (table_of entries))

-- ---- faults that calls answer

-- want of memory is want of memory, whoever tells it
abbrev pub refused_as : LdifFault → LdifRefused
refused_as ldif.NoMemory = NoMemory
refused_as fault = Ldif fault

abbrev pub refused_by : DirectoryFault → LdifRefused
refused_by faults.NoMemory = NoMemory
refused_by fault = Directory fault
