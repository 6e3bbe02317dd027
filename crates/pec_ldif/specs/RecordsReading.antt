-- The records of a text as the code reads them, from the front. `Records` says what that means.
use Rattle.std.specs.Prelude.{ℕ, ◌+◌, Bool, false, List, [], ◌∷◌, ◌++◌, length, codes, option_map, Option, Some, None, if◌then◌else◌, Result, Ok, Err}
use Rattle.std.specs.List.{find, slice_split}
use Rattle.std.specs.Str.{bytes_eq}
use Rattle.pec_types.specs.Bytes.{Bytes, after_front}
use Rattle.pec_types.specs.Results.{◌>>=◌}
use Rattle.pec_ldif.specs.Attributes.{Attribute}
use Rattle.pec_ldif.specs.AttributesReading.{attribute_of, skip_spaces}
use Rattle.pec_ldif.specs.Lines.{Line, lines_of}
use Rattle.pec_ldif.specs.Records.{Entry, Row, is_parting, rows_of}
use Rattle.pec_ldif.specs.declared.faults.LdifFault.{LdifFault}
use Rattle.pec_ldif.specs.declared.faults.LdifFault.TheVariants.{Syntax}

-- ---- one record

-- the attributes of these lines, behind these
abbrev pub attributes_from : List Attribute → List Line → Result (List Attribute) LdifFault
attributes_from before [] = Ok before
attributes_from before (line ∷ lines) =
    attribute_of line >>= λ attribute. attributes_from (before ++ attribute ∷ []) lines

-- a record, or the fault of a row
abbrev pub or_row : Entry → Option Row → Result Entry LdifFault
or_row entry None = Ok entry
or_row entry (Some row) = Err row.1

-- a record behind these, where it meets no test
unfoldable pub tested : List Entry → Entry → Result Entry LdifFault
tested earlier entry = or_row entry (find (λ row. row.0) (rows_of earlier entry))

-- the record that begins at a place
unfoldable pub entry_of : List Entry → ℕ → List Line → Result Entry LdifFault
entry_of earlier place lines =
    attributes_from [] lines >>= λ attributes. tested earlier (record { place = place; attributes = attributes })

-- these records, and the one of these lines, where there are some
abbrev pub with_group : List Entry → List Line → Result (List Entry) LdifFault
with_group earlier [] = Ok earlier
with_group earlier (line ∷ lines) =
    entry_of earlier line.place (line ∷ lines) >>= λ entry. Ok (earlier ++ entry ∷ [])

-- the records of lines that were cut at each empty one, behind these
abbrev pub entries_from : List Entry → List (List Line) → Result (List Entry) LdifFault
entries_from earlier [] = Ok earlier
entries_from earlier (group ∷ groups) = with_group earlier group >>= λ more. entries_from more groups

-- ---- cutting

-- the place of the first empty line
abbrev pub parting_at : List Line → Option ℕ
parting_at [] = None
parting_at (line ∷ lines) = if is_parting line then Some 0 else option_map (λ at. at + 1) (parting_at lines)

-- the groups of what is left behind an empty line
abbrev pub groups_behind : Option (List Line) → List (List Line)
groups_behind None = []
groups_behind (Some lines) = slice_split is_parting lines

-- one more than the lines that are left
abbrev pub lines_left : Option (List Line) → ℕ
lines_left None = 0
lines_left (Some lines) = length lines + 1

-- ---- the version

-- nothing but spaces and `1` stands there
abbrev pub is_one : Option Bytes → Bool
is_one None = false
is_one (Some rest) = bytes_eq (skip_spaces rest) (codes "1")

unfoldable pub is_version : Line → Bool
is_version line = is_one (after_front (codes "version:") line.bytes)

-- the lines from the first that isn't empty
abbrev pub skip_parting : List Line → List Line
skip_parting [] = []
skip_parting (line ∷ lines) = if is_parting line then skip_parting lines else line ∷ lines

-- the lines behind the first of these, which has to be the version
abbrev pub behind_first : ℕ → List Line → Result (List Line) LdifFault
behind_first size [] = Err (Syntax size)
behind_first size (line ∷ lines) = if is_version line then Ok lines else Err (Syntax line.place)

-- the lines behind the version, of a text with so many bytes
unfoldable pub behind_version : ℕ → List Line → Result (List Line) LdifFault
behind_version size lines = behind_first size (skip_parting lines)

-- ---- the whole

-- The records of a text, or why it has none.
unfoldable pub ldif_of_text : Bytes → Result (List Entry) LdifFault
ldif_of_text text = do
  behind ← behind_version (length text) (lines_of text)
  entries_from [] (slice_split is_parting behind)
