-- Addresses `local@domain` by RFC 5322 section 3.4.1, within this project's profile: a local part of atoms joined by dots,
-- a domain of labels joined by dots (RFC 1035 section 2.3.1, digits allowed in front), no quoted local part, no domain
-- literal, no comment, at most 254 bytes. Letters may be capitals and are kept in lower case.
use Rattle.std.specs.Prelude.{◌≡◌, ◌≢◌, ℕ, ◌+◌, ◌<◌, ◌≤◌, Bool, true, false, ◌||◌, ◌==◌, List, [], ◌∷◌, ◌++◌, length, take, codes, if◌then◌else◌, IsTrue}
use Rattle.std.specs.List.{list_any, flat_map, AllByRecursion}
use Rattle.std.specs.Char.{is_ascii_alphanumeric}
use Rattle.std.specs.Str.{str_to_ascii_lowercase}
use Rattle.pec_types.specs.Bytes.{Bytes}
use Rattle.pec_types.specs.declared.addresses.AddressFault.{AddressFault}
use Rattle.pec_types.specs.declared.addresses.AddressFault.TheVariants.{Empty, TooLong, NoAt, BadLocal, BadDomain, NoMemory}

-- a byte of an atom (RFC 5322, section 3.2.3)
unfoldable pub is_atom_byte : ℕ → Bool
is_atom_byte b = is_ascii_alphanumeric b || list_any (λ mark. mark == b) (codes "!#$%&'*+-/=?^_`{|}~")

abbrev pub AllAtomBytes : List ℕ → Type 0
AllAtomBytes [] = Unit {0}
AllAtomBytes (b ∷ bs) = IsTrue (is_atom_byte b) × AllAtomBytes bs

-- one or more bytes of an atom
abbrev pub IsAtom : List ℕ → Type 0
IsAtom [] = ⊥
IsAtom (b ∷ bs) = IsTrue (is_atom_byte b) × AllAtomBytes bs

-- letters, digits and hyphens, the last of them no hyphen; nothing at all ends well behind a letter or digit alone
abbrev pub ends_well : Bool → List ℕ → Bool
ends_well behind_letter [] = behind_letter
ends_well behind_letter (b ∷ bs) = if is_ascii_alphanumeric b then ends_well true bs else (if b == 45 then ends_well false bs else false)

-- 1 to 63 letters, digits and hyphens, with no hyphen at either end
abbrev pub IsLabel : List ℕ → Type 0
IsLabel [] = ⊥
IsLabel (b ∷ bs) = IsTrue (is_ascii_alphanumeric b) × (IsTrue (ends_well true bs) × (length bs ≤ 62))

abbrev pub dotted : List ℕ → List ℕ
dotted part = 46 ∷ part

-- a first part, and further parts behind single dots
pub record IsDotted (IsFirst IsPart : List ℕ → Type 0) (bytes : List ℕ) : Type 0 where
  pub first : List ℕ
  pub others : List (List ℕ)
  pub first_is : IsFirst first
  pub others_are : AllByRecursion IsPart others
  pub parts : bytes ≡ first ++ flat_map dotted others

abbrev pub IsLocal : List ℕ → Type 0
IsLocal bytes = IsDotted IsAtom IsAtom bytes

abbrev pub IsDomain : List ℕ → Type 0
IsDomain bytes = IsDotted IsLabel IsLabel bytes

pub record IsAddress (text : List ℕ) : Type 0 where
  pub local : List ℕ
  pub domain : List ℕ
  pub local_is : IsLocal local
  pub domain_is : IsDomain domain
  pub parts : text ≡ local ++ 64 ∷ domain
  pub short : length text ≤ 254

-- an address in lower case
abbrev pub lowered : List ℕ → List ℕ
lowered text = str_to_ascii_lowercase text

-- an address as it is kept and printed
pub record IsLowerAddress (bytes : List ℕ) : Type 0 where
  pub address : IsAddress bytes
  pub lower : lowered bytes ≡ bytes

-- an address is `local@domain`, for some local part
pub record HasDomain (address domain : List ℕ) : Type 0 where
  pub local : List ℕ
  pub local_is : IsLocal local
  pub domain_is : IsDomain domain
  pub parts : address ≡ local ++ 64 ∷ domain

-- some bytes behind this front make it right
pub record CanGoOn (IsRight : List ℕ → Type 0) (front : List ℕ) : Type 0 where
  pub more : List ℕ
  pub right : IsRight (front ++ more)

-- The place of a part's fault: the first byte from which the part can't be continued to a right one, or the part's end
-- where only its end is wrong.
pub record IsBadAt (IsRight : List ℕ → Type 0) (part : List ℕ) (at : ℕ) : Type 0 where
  pub within : at ≤ length part
  pub goes_on : CanGoOn IsRight (take at part)
  pub stuck : at < length part → CanGoOn IsRight (take (at + 1) part) → ⊥
  pub wrong : at ≡ length part → IsRight part → ⊥

-- no byte is an `@`
abbrev pub HasNoAt : List ℕ → Type 0
HasNoAt bytes = AllByRecursion (λ b. b ≢ 64) bytes

-- the text, parted by its first `@`
pub record IsParted (text local domain : List ℕ) : Type 0 where
  pub short : length text ≤ 254
  pub before : HasNoAt local
  pub parts : text ≡ local ++ 64 ∷ domain

-- The test passes for no byte that addresses have: neither one of an atom, nor a letter or digit, nor a hyphen, a dot or an `@`.
pub record Avoids (p : ℕ → Bool) : Type 0 where
  pub atom : (b : ℕ) → is_atom_byte b ≡ true → p b ≡ false
  pub alphanumeric : (b : ℕ) → is_ascii_alphanumeric b ≡ true → p b ≡ false
  pub hyphen : p 45 ≡ false
  pub dot : p 46 ≡ false
  pub at : p 64 ≡ false

abbrev pub IsAddressFault : List ℕ → AddressFault → Type 0
IsAddressFault text Empty = text ≡ []
IsAddressFault text TooLong = 254 < length text
IsAddressFault text NoAt = (text ≢ []) × (length text ≤ 254) × HasNoAt text
IsAddressFault text (BadLocal at) = (local : List ℕ) × (domain : List ℕ) × IsParted text local domain × IsBadAt IsLocal local at
IsAddressFault text (BadDomain at) = (local : List ℕ) × (domain : List ℕ) × IsParted text local domain × IsLocal local
    × ((place : ℕ) × IsBadAt IsDomain domain place × (at ≡ (length local + 1) + place))
IsAddressFault text NoMemory = ⊥

-- the text is an address, and this is it in lower case
abbrev pub IsReadAs : Bytes → Bytes → Type 0
IsReadAs text address = IsAddress text × (address ≡ lowered text)
