-- What the bytes of a directory are taken for: its providers, `IsDirectoryIn`, or why they say none, `IsRefusal`. Bytes
-- are LDIF where their first line says so, and TOML otherwise. `directory_in` is the same as a function. This project's
-- profile.
use Rattle.std.specs.Prelude.{◌≡◌, true, false, List, Result, Ok, Err, if◌then◌else◌}
use Rattle.std.specs.Str.{is_utf8}
use Rattle.pec_types.specs.Bytes.{Bytes}
use Rattle.pec_directory.specs.Directory.{Provider, providers_of}
use Rattle.pec_directory.specs.Faults.{IsDirectoryFault}
use Rattle.pec_directory.specs.Tables.{IsDirectory}
use Rattle.pec_directory.specs.Walk.{directory_of}
use Rattle.pec_directory.specs.declared.faults.DirectoryFault.{DirectoryFault}
use Rattle.pec_directory.specs.declared.faults.DirectoryFault.TheVariants.{NotToml}
use Rattle.pec_ldif.specs.Directories.{IsLdifDirectory, IsLdifRefusal, directory_in_ldif, of_table}
use Rattle.pec_ldif.specs.FirstLine.{is_ldif}
use Rattle.pec_ldif.specs.declared.refusals.LdifRefused.{LdifRefused}
use Rattle.pec_ldif.specs.declared.refusals.LdifRefused.TheVariants as refusals
use Rattle.pec_input.specs.declared.directory.Opened.{Opened}
use Rattle.pec_input.specs.declared.directory.Opened.TheVariants.{Opens, Refused}

-- Why a directory is refused: for a fault of LDIF, or for one of the directory, whichever of the two its text is.
abbrev pub Refusal : Type 0
Refusal = LdifRefused

-- a fault of a directory's table, and one of TOML, among them
abbrev pub of_directory : DirectoryFault → Refusal
of_directory fault = refusals.Directory fault

-- The bytes are the directory of these providers: they are LDIF by their first line, and the table of their records says
-- them; or they aren't, and their tables of TOML do.
pub data IsDirectoryIn (bytes : Bytes) (providers : List Provider) : Type 0 where
  SaidInLdif : is_ldif bytes ≡ true → IsLdifDirectory bytes providers → IsDirectoryIn bytes providers
  SaidInToml : is_ldif bytes ≡ false → is_utf8 bytes ≡ true → IsDirectory bytes providers → IsDirectoryIn bytes providers

-- The bytes are refused for this: as LDIF by their first line; or as TOML, which bytes that aren't UTF-8 are not.
pub data IsRefusal (bytes : Bytes) (why : Refusal) : Type 0 where
  RefusedAsLdif : is_ldif bytes ≡ true → IsLdifRefusal bytes why → IsRefusal bytes why
  RefusedAsBytes : is_ldif bytes ≡ false → is_utf8 bytes ≡ false → why ≡ of_directory NotToml → IsRefusal bytes why
  RefusedAsToml : (fault : DirectoryFault) → is_ldif bytes ≡ false → is_utf8 bytes ≡ true → IsDirectoryFault bytes fault
      → why ≡ of_directory fault → IsRefusal bytes why

-- ---- as a function

-- what bytes say as TOML
unfoldable pub directory_in_toml : Bytes → Result (List Provider) Refusal
directory_in_toml bytes =
    if is_utf8 bytes then of_table (directory_of bytes) else Err (of_directory NotToml)

-- The providers that the bytes say, or why they say none.
unfoldable pub directory_in : Bytes → Result (List Provider) Refusal
directory_in bytes = if is_ldif bytes then directory_in_ldif bytes else directory_in_toml bytes

-- ---- what is opened

abbrev pub opened_shown : Opened → Result (List Provider) Refusal
opened_shown (Refused why) = Err why
opened_shown (Opens directory) = Ok (providers_of directory)
