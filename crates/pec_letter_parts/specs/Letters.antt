-- What is read of a sealed text: who sealed it and its head (`IsHeaded`), then its parts and what it certifies (`IsLetter`); and
-- why a text is none (`IsUnheaded`, `IsUnread`). Which letter it is, and whether its texts agree, are questions of their own.
use Rattle.std.specs.Prelude.{◌≡◌, ℕ, List, Bool, false, ◌⊎◌, drop, find, Option, None, Some, codes}
use Rattle.std.specs.Option.{option_and_then, option_map}
use Rattle.std.specs.Str.{bytes_eq}
use Rattle.pec_types.specs.Bytes.{Bytes}
use Rattle.pec_types.specs.declared.disputes.LetterFault.{LetterFault}
use Rattle.pec_types.specs.declared.disputes.LetterFault.TheVariants.{Seal, Head, Body, Cert, NotThis, Disagree, NoMemory}
use Rattle.pec_heads.specs.FactsOfHeads.{first_value}
use Rattle.pec_heads.specs.Heads.{HasHeadFault, IsHead, NamedValue}
use Rattle.pec_bodies.specs.Multiparts.{HasFaultOf, IsParts, ReadPart}
use Rattle.pec_bodies.specs.ParametersReading.{parameter_of}
use Rattle.pec_cert.specs.Certificate.{IsCert}
use Rattle.pec_cert.specs.declared.certificates.CertData.{CertData}
use Rattle.pec_seal.specs.Seals.{IsSealedByNone, Seals, sealed}
use Rattle.pec_letter_parts.specs.Contents.{certificate_name}

-- What is read of a text that opens: the provider that sealed it, the fields of its head, and what is behind that.
pub record Headed : Type 0 where
  pub sealer : ℕ
  pub head : List NamedValue
  pub body : Bytes

-- What is read of a letter: who sealed it, its head, its parts, and what it certifies.
pub record Letter : Type 0 where
  pub sealer : ℕ
  pub head : List NamedValue
  pub parts : List ReadPart
  pub cert : CertData

-- ---- parts by their names

-- the name that a part's head gives: the parameter `name` of its first `Content-Type`
abbrev pub part_name : List NamedValue → Option Bytes
part_name head = option_and_then (parameter_of (codes "name")) (first_value (codes "Content-Type") head)

-- there is a value, and it is this one
abbrev pub is_value : Bytes → Option Bytes → Bool
is_value wanted None = false
is_value wanted (Some value) = bytes_eq value wanted

abbrev pub has_name : Bytes → ReadPart → Bool
has_name name part = is_value name (part_name part.head)

-- the body of the first part of a name
unfoldable pub body_of : Bytes → List ReadPart → Option Bytes
body_of name parts = option_map (λ (part : ReadPart). part.body) (find (has_name name) parts)

-- ---- heads

-- This is read of the text: a provider sealed it, and what was sealed begins with a head.
pub record IsHeaded (seals : Seals) (text : Bytes) (read : Headed) : Type 0 where
  pub bytes : Bytes
  pub place : ℕ
  pub opens : sealed seals read.sealer bytes ≡ Some text
  pub head_is : IsHead bytes read.head place
  pub body_is : read.body ≡ drop place bytes

-- What was sealed begins with no head.
pub record HasNoHead (seals : Seals) (text : Bytes) : Type 0 where
  pub sealer : ℕ
  pub bytes : Bytes
  pub opens : sealed seals sealer bytes ≡ Some text
  pub none : HasHeadFault bytes

abbrev pub IsUnheaded : Seals → Bytes → LetterFault → Type 0
IsUnheaded seals text Seal = IsSealedByNone seals text
IsUnheaded seals text Head = HasNoHead seals text
IsUnheaded seals text Body = ⊥
IsUnheaded seals text Cert = ⊥
IsUnheaded seals text NotThis = ⊥
IsUnheaded seals text (Disagree disputed) = ⊥
IsUnheaded seals text NoMemory = ⊥

-- ---- letters

-- A part is named `daticert.xml`, and the first such part's body certifies this.
pub record Certifies (parts : List ReadPart) (cert : CertData) : Type 0 where
  pub text : Bytes
  pub part : body_of certificate_name parts ≡ Some text
  pub text_is : IsCert cert text

-- This is what is behind the head that was read.
pub record IsLetterIn (read : Headed) (letter : Letter) : Type 0 where
  pub sealer_is : letter.sealer ≡ read.sealer
  pub head_is : letter.head ≡ read.head
  pub parts_are : IsParts read.head read.body letter.parts
  pub cert_is : Certifies letter.parts letter.cert

-- There are parts, and they certify nothing.
pub record HasNoCert (read : Headed) : Type 0 where
  pub parts : List ReadPart
  pub parts_are : IsParts read.head read.body parts
  pub none : (cert : CertData) → Certifies parts cert → ⊥

abbrev pub IsUnreadIn : Headed → LetterFault → Type 0
IsUnreadIn read Seal = ⊥
IsUnreadIn read Head = ⊥
IsUnreadIn read Body = HasFaultOf read.head read.body
IsUnreadIn read Cert = HasNoCert read
IsUnreadIn read NotThis = ⊥
IsUnreadIn read (Disagree disputed) = ⊥
IsUnreadIn read NoMemory = ⊥

-- This letter is read of the text.
abbrev pub IsLetter : Seals → Bytes → Letter → Type 0
IsLetter seals text letter = (read : Headed) × (IsHeaded seals text read × IsLetterIn read letter)

-- No letter is read of the text: the first of its readings that fails is this one.
abbrev pub IsUnread : Seals → Bytes → LetterFault → Type 0
IsUnread seals text fault = IsUnheaded seals text fault ⊎ ((read : Headed) × (IsHeaded seals text read × IsUnreadIn read fault))
