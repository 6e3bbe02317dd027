-- Heads as they are written (RFC 5322, sections 2.2 and 2.2.3, within this project's profile): after each colon one
-- space, each line ended by CRLF, long lists folded behind their commas. `head_text` is the text of fields, `shown`
-- what is read of one, and `CanStand` says which fields may be written.
use Rattle.std.specs.Prelude.{◌≡◌, List, [], ◌∷◌, ◌++◌, map, Bool, true, false}
use Rattle.std.specs.List.{AllByRecursion, flat_map, join_with_byte}
use Rattle.pec_types.specs.Bytes.{Bytes, Path, line_feed, carriage_return, space, comma, colon}
use Rattle.pec_heads.specs.Bytes.{trimmed}
use Rattle.pec_heads.specs.Heads.{NamedValue, IsLine, is_name}
use Rattle.pec_heads.specs.Lines.{ended_line}

-- A field as it is written: its name, what stands in its first line behind the colon and a space, and its further
-- lines, each without the space that it begins with.
pub record Written : Type 0 where
  pub name : Bytes
  pub first : Bytes
  pub more : List Bytes

-- a line that goes on: a space before it
abbrev pub spaced : Bytes → Bytes
spaced line = space ∷ line

-- the lines of a field, without their line ends
abbrev pub field_lines : Written → List Bytes
field_lines w = (w.name ++ colon ∷ spaced w.first) ∷ map spaced w.more

-- a field as it stands in a head
abbrev pub field_text : Written → Bytes
field_text w = flat_map ended_line (field_lines w)

-- The text of the fields, each line with its line end, without the empty line that ends a head.
abbrev pub head_text : List Written → Bytes
head_text fields = flat_map field_text fields

-- A head of these fields, the empty line that ends it, and a body.
abbrev pub with_head : List Written → Bytes → Bytes
with_head fields body = head_text fields ++ carriage_return ∷ line_feed ∷ body

-- the value of a field, unfolded, with the blanks at its ends
abbrev pub value_text : Written → Bytes
value_text w = w.first ++ flat_map spaced w.more

-- What is read of a field: its name, and its value without the blanks at its ends.
abbrev pub shown : Written → NamedValue
shown w = record { name = w.name; value = trimmed (value_text w) }

-- A field may be written where its name is one and each of its lines, with the name and the space, may stand in a head.
pub record CanStand (w : Written) : Type 0 where
  pub name : is_name w.name ≡ true
  pub lines : AllByRecursion IsLine (field_lines w)

-- each of them may be written
abbrev pub AllStand : List Written → Type 0
AllStand fields = AllByRecursion CanStand fields

-- ---- the two forms

-- a field of one line
abbrev pub field : Bytes → Bytes → Written
field name value = record { name = name; first = value; more = [] }

-- the first line
abbrev pub opening_line : List Bytes → Bytes
opening_line [] = []
opening_line (line ∷ lines) = line

-- the further lines
abbrev pub folded_lines : List Bytes → List Bytes
folded_lines [] = []
folded_lines (line ∷ lines) = lines

-- a field with its value on these lines
abbrev pub on_lines : Bytes → List Bytes → Written
on_lines name lines = record { name = name; first = opening_line lines; more = folded_lines lines }

-- one address a line, each but the last with a comma behind it
abbrev pub address_lines : Path → List Bytes
address_lines [] = []
address_lines (last ∷ []) = last ∷ []
address_lines (address ∷ next ∷ addresses) = (address ++ comma ∷ []) ∷ address_lines (next ∷ addresses)

-- a field of addresses, folded behind its commas
abbrev pub list_field : Bytes → Path → Written
list_field name addresses = on_lines name (address_lines addresses)

-- the entries of addresses that are joined by a comma and a space
abbrev pub address_entries : Path → List Bytes
address_entries [] = []
address_entries (address ∷ addresses) = address ∷ map spaced addresses

-- Addresses on one line, joined by a comma and a space: what is read of such a field.
abbrev pub addresses_text : Path → Bytes
addresses_text addresses = join_with_byte comma (address_entries addresses)

-- what stands behind an address: the end of its line, and where others follow a comma before that and the space of the
-- next line
abbrev pub behind_address : Bool → Bytes
behind_address true = carriage_return ∷ line_feed ∷ []
behind_address false = comma ∷ carriage_return ∷ line_feed ∷ space ∷ []

-- addresses one a line, as they stand behind the field's name
abbrev pub folded_from : Path → Bytes
folded_from [] = []
folded_from (last ∷ []) = last ++ behind_address true
folded_from (address ∷ next ∷ addresses) = (address ++ behind_address false) ++ folded_from (next ∷ addresses)
