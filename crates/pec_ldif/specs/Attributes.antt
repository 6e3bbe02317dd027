-- What a line of LDIF says (RFC 2849): `IsAttribute`, and `IsAttributeFault` where it says nothing. A name, a colon, any
-- spaces and a plain value; or a name, two colons, any spaces and base64 (RFC 4648, section 4, padded and canonical) of
-- UTF-8. This project's profile.
use Rattle.std.specs.Prelude.{◌≡◌, ◌⊎◌, ℕ, Bool, true, false, not, ◌&&◌, ◌||◌, ◌==◌, nat_le, [], ◌∷◌, ◌++◌, Ok}
use Rattle.std.specs.Char.{is_ascii_alphanumeric}
use Rattle.std.specs.List.{list_all}
use Rattle.std.specs.Str.{is_utf8}
use Rattle.base64.specs.Engines.{standard}
use Rattle.base64.specs.GeneralPurpose.{decode_of}
use Rattle.pec_types.specs.Bytes.{Bytes, carriage_return, colon, dot, hyphen, line_feed, semicolon, space}
use Rattle.pec_ldif.specs.Lines.{Line, begins_with}
use Rattle.pec_ldif.specs.declared.faults.LdifFault.{LdifFault}
use Rattle.pec_ldif.specs.declared.faults.LdifFault.TheVariants.{Syntax, BadBase64, NoDn, Change, Orphan, NoMemory}

-- An attribute: its name as it stands, and its value.
pub record Attribute : Type 0 where
  pub name : Bytes
  pub value : Bytes

-- the byte that RFC 2849 keeps for values by their URL
abbrev pub less_than : ℕ
less_than = 60

-- ---- names

abbrev pub is_name_byte : ℕ → Bool
is_name_byte b = ((is_ascii_alphanumeric b || b == hyphen) || b == semicolon) || b == dot

-- a letter or digit, and then letters, digits, hyphens, semicolons and dots
abbrev pub is_name : Bytes → Bool
is_name [] = false
is_name (b ∷ bs) = is_ascii_alphanumeric b && list_all is_name_byte bs

-- the line begins with a name and a colon, and this is behind them
pub record IsNamed (bytes name rest : Bytes) : Type 0 where
  pub right : is_name name ≡ true
  pub parts : bytes ≡ name ++ colon ∷ rest

-- ---- values

abbrev pub is_space : ℕ → Bool
is_space b = b == space

-- any spaces, and then this, which begins with none
pub record IsSpaced (bytes rest : Bytes) : Type 0 where
  pub spaces : Bytes
  pub each : list_all is_space spaces ≡ true
  pub first : begins_with space rest ≡ false
  pub parts : bytes ≡ spaces ++ rest

abbrev pub is_plain_byte : ℕ → Bool
is_plain_byte b = ((nat_le 1 b && nat_le b 127) && not (b == line_feed)) && not (b == carriage_return)

-- bytes from 1 to 127 other than line feeds and carriage returns, of which the first is no colon and no `<`
abbrev pub is_plain : Bytes → Bool
is_plain value = (not (begins_with colon value) && not (begins_with less_than value)) && list_all is_plain_byte value

-- what stands behind the colon of a name is a plain value
abbrev pub IsPlainValue : Bytes → Bytes → Type 0
IsPlainValue rest value = IsSpaced rest value × (is_plain value ≡ true)

-- what stands there is a second colon, and a value in base64, which is UTF-8
pub record IsCodedValue (rest value : Bytes) : Type 0 where
  pub coded : Bytes
  pub code : Bytes
  pub is_coded : rest ≡ colon ∷ coded
  pub spaced : IsSpaced coded code
  pub decoded : decode_of standard code ≡ Ok value
  pub utf8 : is_utf8 value ≡ true

-- ---- lines

-- The line says an attribute.
pub record IsAttribute (line : Line) (attribute : Attribute) : Type 0 where
  pub rest : Bytes
  pub named : IsNamed line.bytes attribute.name rest
  pub value : IsPlainValue rest attribute.value ⊎ IsCodedValue rest attribute.value

-- the line says no attribute
abbrev pub SaysNone : Line → Type 0
SaysNone line = (attribute : Attribute) → IsAttribute line attribute → ⊥

-- the line begins with a name and two colons
abbrev pub IsCoded : Line → Type 0
IsCoded line = (name : Bytes) × (coded : Bytes) × IsNamed line.bytes name (colon ∷ coded)

-- Why a line says nothing: where two colons stand behind a name, that there is no base64 of UTF-8 behind them; and
-- otherwise that it is of none of the forms.
abbrev pub IsAttributeFault : Line → LdifFault → Type 0
IsAttributeFault line (Syntax place) = (place ≡ line.place) × (IsCoded line → ⊥) × SaysNone line
IsAttributeFault line (BadBase64 place) = (place ≡ line.place) × IsCoded line × SaysNone line
IsAttributeFault line (NoDn place) = ⊥
IsAttributeFault line (Change place) = ⊥
IsAttributeFault line (Orphan place) = ⊥
IsAttributeFault line NoMemory = ⊥
