-- A text of LDIF is one directory, or is refused for one reason: what is told of its records and of their table is put
-- together.
use Rattle.std.proofs.Common.{◌≡◌, List, Result, Ok, Err, refl, sym, ◌∙◌, ap, subst}
use Rattle.pec_types.specs.Answers.{Gives, ReadsExactly, TellsExactly, seen_as, told_is_read}
use Rattle.pec_types.specs.Bytes.{Bytes}
use Rattle.pec_types.specs.Results.{◌>>=◌}
use Rattle.toml.specs.Data.{Data}
use Rattle.pec_directory.specs.Directory.{Kept, Provider, providers_of}
use Rattle.pec_directory.specs.Faults.{IsTableFault}
use Rattle.pec_directory.specs.Tables.{IsOfTable}
use Rattle.pec_directory.specs.Walk.{directory_in}
use Rattle.pec_directory.specs.declared.faults.DirectoryFault.{DirectoryFault}
use Rattle.pec_ldif.specs.Directories.{IsLdifDirectory, IsLdifRefusal, directory_in_ldif, of_table, of_text}
use Rattle.pec_ldif.specs.Records.{Entry, IsLdif, IsLdifFault}
use Rattle.pec_ldif.specs.RecordsReading.{ldif_of_text}
use Rattle.pec_ldif.specs.Tables.{table_of}
use Rattle.pec_ldif.specs.declared.faults.LdifFault.{LdifFault}
use Rattle.pec_ldif.specs.declared.refusals.LdifRefused.{LdifRefused}
use Rattle.pec_ldif.specs.declared.refusals.LdifRefused.TheVariants.{Ldif, Directory, NoMemory}

abbrev pub LdifTold : Type 0
LdifTold = (text : Bytes) → TellsExactly (IsLdif text) (IsLdifFault text) (ldif_of_text text)

abbrev pub TablesTold : Type 0
TablesTold = (whole : Data) → TellsExactly (IsOfTable whole) (IsTableFault whole) (directory_in whole)

abbrev Answer : Type 0
Answer = Result (List Provider) LdifRefused

abbrev entries_told : List Entry → Result (List Entry) LdifFault
entries_told entries = Ok entries

abbrev fault_told : LdifFault → Result (List Entry) LdifFault
fault_told fault = Err fault

abbrev providers_told : List Provider → Result (List Provider) DirectoryFault
providers_told providers = Ok providers

abbrev stop_told : DirectoryFault → Result (List Provider) DirectoryFault
stop_told fault = Err fault

abbrev answered : List Provider → Answer
answered providers = Ok providers

abbrev refused : LdifRefused → Answer
refused why = Err why

abbrev from_entries : List Entry → Answer
from_entries entries = of_table (directory_in (table_of entries))

same_entries : (some other : List Entry) → entries_told some ≡ entries_told other → some ≡ other
same_entries some other e = cc

apart : (entries : List Entry) (fault : LdifFault) → entries_told entries ≡ fault_told fault → ⊥
apart entries fault e = cc

same_fault : (fault other : LdifFault) → refused (Ldif fault) ≡ refused (Ldif other) → fault ≡ other
same_fault fault other e = cc

no_answer : (why : LdifRefused) (providers : List Provider) → refused why ≡ answered providers → ⊥
no_answer why providers e = cc

not_ldif : (fault : LdifFault) (other : DirectoryFault) → refused (Ldif fault) ≡ refused (Directory other) → ⊥
not_ldif fault other e = cc

memory_apart : (fault : LdifFault) → refused (Ldif fault) ≡ refused NoMemory → ⊥
memory_apart fault e = cc

-- ---- the table of known records

by_value : (d : Result (List Provider) DirectoryFault) (providers : List Provider) → of_table d ≡ answered providers → d ≡ providers_told providers
by_value (Ok some) providers e = cc
by_value (Err fault) providers e = absurd cc

by_fault : (d : Result (List Provider) DirectoryFault) (fault : DirectoryFault) → of_table d ≡ refused (Directory fault) → d ≡ stop_told fault
by_fault (Ok some) fault e = absurd cc
by_fault (Err other) fault e = cc

by_ldif : (d : Result (List Provider) DirectoryFault) (fault : LdifFault) → of_table d ≡ refused (Ldif fault) → ⊥
by_ldif (Ok some) fault e = cc
by_ldif (Err other) fault e = cc

by_memory : (d : Result (List Provider) DirectoryFault) → of_table d ≡ refused NoMemory → ⊥
by_memory (Ok some) e = cc
by_memory (Err other) e = cc

module _ (ldif : LdifTold) (tables : TablesTold) (text : Bytes) where
  module _ (entries : List Entry) (is : ldif_of_text text ≡ entries_told entries) where
    known : IsLdif text entries
    known = ((ldif text).value entries).0 is

    one : (other : List Entry) → IsLdif text other → other ≡ entries
    one other it = same_entries other entries (sym (((ldif text).value other).1 it) ∙ is)

    value_again : (providers : List Provider) → IsLdifDirectory text providers → from_entries entries ≡ answered providers
    value_again providers it =
        ap (λ es. from_entries es) (sym (one it.entries it.is_ldif))
        ∙ ap (λ d. of_table d) (((tables (table_of it.entries)).value providers).1 it.is_table)

    value_so : (providers : List Provider) → from_entries entries ≡ answered providers → IsLdifDirectory text providers
    value_so providers e = record {
      entries = entries;
      is_ldif = known;
      is_table = ((tables (table_of entries)).value providers).0 (by_value (directory_in (table_of entries)) providers e);
    }

    none : (fault : LdifFault) → IsLdifFault text fault → ⊥
    none fault it = apart entries fault (sym is ∙ ((ldif text).fault fault).1 it)

    fault_so : (why : LdifRefused) → from_entries entries ≡ refused why → IsLdifRefusal text why
    fault_so (Ldif fault) e = absurd (by_ldif (directory_in (table_of entries)) fault e)
    fault_so (Directory fault) e =
        (entries, known, ((tables (table_of entries)).fault fault).0 (by_fault (directory_in (table_of entries)) fault e))
    fault_so NoMemory e = absurd (by_memory (directory_in (table_of entries)) e)

    fault_again : (why : LdifRefused) → IsLdifRefusal text why → from_entries entries ≡ refused why
    fault_again (Ldif fault) it = absurd (none fault it)
    fault_again (Directory fault) it =
        ap (λ es. from_entries es) (sym (one it.0 it.1)) ∙ ap (λ d. of_table d) (((tables (table_of it.0)).fault fault).1 it.2)
    fault_again NoMemory it = absurd it

    of_records : TellsExactly (IsLdifDirectory text) (IsLdifRefusal text) (from_entries entries)
    of_records = record {
      value = λ providers. (value_so providers, value_again providers);
      fault = λ why. (fault_so why, fault_again why);
    }

  module _ (stop : LdifFault) (is : ldif_of_text text ≡ fault_told stop) where
    nothing : (entries : List Entry) → IsLdif text entries → ⊥
    nothing entries it = apart entries stop (sym (((ldif text).value entries).1 it) ∙ is)

    stop_so : (why : LdifRefused) → refused (Ldif stop) ≡ refused why → IsLdifRefusal text why
    stop_so (Ldif fault) e = subst (λ f. IsLdifFault text f) (same_fault stop fault e) (((ldif text).fault stop).0 is)
    stop_so (Directory fault) e = absurd (not_ldif stop fault e)
    stop_so NoMemory e = absurd (memory_apart stop e)

    stop_again : (why : LdifRefused) → IsLdifRefusal text why → refused (Ldif stop) ≡ refused why
    stop_again (Ldif fault) it = ap (λ r. of_text r >>= from_entries) (sym is ∙ ((ldif text).fault fault).1 it)
    stop_again (Directory fault) it = absurd (nothing it.0 it.1)
    stop_again NoMemory it = absurd it

    of_fault : TellsExactly (IsLdifDirectory text) (IsLdifRefusal text) (refused (Ldif stop))
    of_fault = record {
      value = λ providers. (λ e. absurd (no_answer (Ldif stop) providers e), λ it. absurd (nothing it.entries it.is_ldif));
      fault = λ why. (stop_so why, stop_again why);
    }

  by_text : (r : Result (List Entry) LdifFault) → ldif_of_text text ≡ r
      → TellsExactly (IsLdifDirectory text) (IsLdifRefusal text) (of_text r >>= from_entries)
  by_text (Ok entries) is = of_records entries is
  by_text (Err stop) is = of_fault stop is

  pub directory_told : TellsExactly (IsLdifDirectory text) (IsLdifRefusal text) (directory_in_ldif text)
  unfolding directory_in_ldif
  directory_told = by_text (ldif_of_text text) refl

-- what is answered as `directory_in_ldif` tells is read exactly
pub directory_reads : (text : Bytes) (answer : Result (List Kept) LdifRefused)
    → TellsExactly (IsLdifDirectory text) (IsLdifRefusal text) (directory_in_ldif text) → Gives NoMemory providers_of answer (directory_in_ldif text)
    → ReadsExactly (IsLdifDirectory text) (IsLdifRefusal text) NoMemory (seen_as providers_of answer)
directory_reads text (Ok kept) exactly same =
    told_is_read (IsLdifDirectory text) (IsLdifRefusal text) NoMemory (Ok (providers_of kept)) (directory_in_ldif text) exactly same
directory_reads text (Err why) exactly same =
    told_is_read (IsLdifDirectory text) (IsLdifRefusal text) NoMemory (Err why) (directory_in_ldif text) exactly same
