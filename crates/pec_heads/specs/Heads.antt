-- Message heads (RFC 5322, sections 2.1.1, 2.2 and 2.2.3, within this project's profile): which texts begin with a
-- head, what its fields are, and the first fault of a text that begins with none. The headlines are `IsHead` and
-- `IsFaulty`.
use Rattle.std.specs.Prelude.{◌≡◌, ℕ, ◌+◌, ◌<◌, ◌≤◌, ◌==◌, nat_lt, nat_le, List, [], ◌∷◌, ◌++◌, map, Bool, true, false, not, ◌&&◌, ◌||◌, ◌⊎◌, if◌then◌else◌, length}
use Rattle.std.specs.Str.{str_eq_ignore_ascii_case}
use Rattle.std.specs.List.{list_all, flat_map, concat, join_with_byte}
use Rattle.pec_types.specs.Bytes.{Bytes, tab, space, comma, colon}
use Rattle.pec_heads.specs.Bytes.{begins_blank, NonePass, FirstOf, trimmed}
use Rattle.pec_heads.specs.Lines.{whole_lines, content_of, size}
use Rattle.pec_heads.specs.declared.TheConstants.{LINE_LIMIT}
use Rattle.pec_heads.specs.declared.faults.HeadFault.{HeadFault}
use Rattle.pec_heads.specs.declared.faults.HeadFault.TheVariants.{NoColon, BadName, BareControl, NoEnd, LineTooLong, NoMemory}

-- What is seen of a field: its name, and its unfolded value with the blanks at both ends cut off.
pub record NamedValue : Type 0 where
  pub name : Bytes
  pub value : Bytes

-- one or more bytes from 33 to 126 other than the colon (RFC 5322, section 2.2)
abbrev pub is_name_byte : ℕ → Bool
is_name_byte b = nat_le 33 b && nat_le b 126 && not (b == colon)

-- a field's name
unfoldable pub is_name : Bytes → Bool
is_name bytes = not (length bytes == 0) && list_all is_name_byte bytes

-- the last of the control bytes of ASCII
abbrev pub delete : ℕ
delete = 127

-- below 32 but for the tab, or 127
abbrev pub is_control : ℕ → Bool
is_control b = (nat_lt b space && not (b == tab)) || b == delete

abbrev pub is_colon : ℕ → Bool
is_colon b = b == colon

-- a line of a head, without its line end
pub record IsLine (bytes : Bytes) : Type 0 where
  pub short : length bytes ≤ LINE_LIMIT
  pub plain : NonePass is_control bytes

-- a line that goes on with the field before it: it begins with a blank
pub record GoesOn (bytes : Bytes) : Type 0 where
  pub line : IsLine bytes
  pub blank : begins_blank bytes ≡ true

-- each of the lines goes on
abbrev pub AllGoOn : List Bytes → Type 0
AllGoOn [] = Unit {0}
AllGoOn (line ∷ lines) = GoesOn line × AllGoOn lines

-- A field as it stands in lines: `name:rest`, and the lines that go on with it.
pub record FieldLines : Type 0 where
  pub name : Bytes
  pub rest : Bytes
  pub more : List Bytes

-- the first line of a field
abbrev pub first_line_of : FieldLines → Bytes
first_line_of f = f.name ++ colon ∷ f.rest

-- all lines of a field
abbrev pub lines_of : FieldLines → List Bytes
lines_of f = first_line_of f ∷ f.more

-- A field whose name is one and whose lines may stand in a head.
pub record IsField (f : FieldLines) : Type 0 where
  pub name : is_name f.name ≡ true
  pub first : IsLine (first_line_of f)
  pub more : AllGoOn f.more

-- each of them is a field
abbrev pub AllFields : List FieldLines → Type 0
AllFields [] = Unit {0}
AllFields (f ∷ fs) = IsField f × AllFields fs

-- the rest and the lines that go on, joined without their line ends
abbrev pub raw_of : FieldLines → NamedValue
raw_of f = record { name = f.name; value = f.rest ++ concat f.more }

-- blanks at both ends cut off
abbrev pub cut : NamedValue → NamedValue
cut f = record { name = f.name; value = trimmed f.value }

-- what is seen of a field in lines
abbrev pub unfolded : FieldLines → NamedValue
unfolded f = cut (raw_of f)

-- The text begins with a head of these fields, and place is that of the first byte after its empty line.
pub record IsHead (text : Bytes) (fields : List NamedValue) (place : ℕ) : Type 0 where
  pub trees : List FieldLines
  pub before : List Bytes
  pub last : Bytes
  pub after : List Bytes
  pub each : AllFields trees
  pub lines : whole_lines text ≡ before ++ last ∷ after
  pub contents : map content_of before ≡ flat_map lines_of trees
  pub empty : content_of last ≡ []
  pub fields_are : fields ≡ map unfolded trees
  pub place_is : place ≡ size before + (length last + 1)

-- a line that isn't empty, doesn't go on with a field, and has no colon
pub record HasNoColon (bytes : Bytes) : Type 0 where
  pub some : 0 < length bytes
  pub begins : begins_blank bytes ≡ false
  pub none : NonePass is_colon bytes

-- a line that doesn't go on with a field, with no name before its first colon
pub record HasBadName (bytes : Bytes) : Type 0 where
  pub front : Bytes
  pub begins : begins_blank bytes ≡ false
  pub colon : FirstOf is_colon bytes front
  pub wrong : is_name front ≡ false

-- a wrong name, or a first line that goes on with nothing
abbrev pub NameFault : Bool → Bytes → Type 0
NameFault first bytes = ((first ≡ true) × (begins_blank bytes ≡ true)) ⊎ HasBadName bytes

-- The fault of a line that starts at a place; first says whether it is the first line of all. A line has the first of:
-- too long, a control byte, no colon or no name.
abbrev pub LineFault : ℕ → Bool → Bytes → HeadFault → Type 0
LineFault place first bytes (LineTooLong p) = (LINE_LIMIT < length bytes) × (p ≡ place)
LineFault place first bytes (BareControl p) =
    (length bytes ≤ LINE_LIMIT) × ((front : Bytes) × (FirstOf is_control bytes front × (p ≡ place + length front)))
LineFault place first bytes (NoColon p) = IsLine bytes × HasNoColon bytes × (p ≡ place)
LineFault place first bytes (BadName p) = IsLine bytes × NameFault first bytes × (p ≡ place)
LineFault place first bytes NoEnd = ⊥
LineFault place first bytes NoMemory = ⊥

-- reading stops with the fault of the first of these lines, or for want of a line
abbrev pub Stops : ℕ → Bool → List Bytes → HeadFault → Type 0
Stops place first [] fault = fault ≡ NoEnd
Stops place first (line ∷ lines) fault = LineFault place first (content_of line) fault

-- The text begins with no head: behind lines of whole fields stands a line with this fault, or no line.
pub record IsFaulty (text : Bytes) (fault : HeadFault) : Type 0 where
  pub trees : List FieldLines
  pub before : List Bytes
  pub after : List Bytes
  pub each : AllFields trees
  pub lines : whole_lines text ≡ before ++ after
  pub contents : map content_of before ≡ flat_map lines_of trees
  pub fault_is : Stops (size before) (length before == 0) after fault

-- the text begins with some head
abbrev pub HasHead : Bytes → Type 0
HasHead text = (fields : List NamedValue) × (place : ℕ) × IsHead text fields place

-- the text has some fault as a head
abbrev pub HasHeadFault : Bytes → Type 0
HasHeadFault text = (fault : HeadFault) × IsFaulty text fault

-- What is read of a text: the fields of the head that it begins with, and the place behind it.
abbrev pub IsRead : Bytes → List NamedValue × ℕ → Type 0
IsRead text read = IsHead text read.0 read.1

-- ---- look-ups

-- the field has this name, in whatever case its letters are (RFC 5322, section 2.2; names are ASCII)
abbrev pub is_named : Bytes → NamedValue → Bool
is_named name field = str_eq_ignore_ascii_case field.name name

-- the values of the fields of a name, in the order of the head
abbrev pub values_of : Bytes → List NamedValue → List Bytes
values_of name [] = []
values_of name (f ∷ fs) = if is_named name f then f.value ∷ values_of name fs else values_of name fs

-- the values of the fields of a name, joined by commas
abbrev pub joined_values : Bytes → List NamedValue → Bytes
joined_values name fields = join_with_byte comma (values_of name fields)
