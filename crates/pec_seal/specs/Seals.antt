-- What sealers are, and the sealed text of some bytes: one line `X-Sigillo: NAME; TAG` CRLF and the bytes, where NAME is
-- the sealing provider's and TAG the base64 (RFC 4648, section 4) of a tag of 32 bytes. This project's profile.
use Rattle.std.specs.Prelude.{◌≡◌, ◌≢◌, ℕ, List, ◌++◌, ◌↔◌, length, codes, Option, Some, None, option_map}
use Rattle.base64.specs.Engines.{standard}
use Rattle.base64.specs.GeneralPurpose.{encode_of, IsBytes}
use Rattle.pec_types.specs.Text.{AllPrintable}

-- What a sealer answers: the number of the provider of a name, the name of the provider of a number, and the tag that the
-- provider of a number gives to bytes.
pub record Seals : Type 0 where
  pub number_of : List ℕ → Option ℕ
  pub name_of : ℕ → Option (List ℕ)
  pub tag_of : ℕ → List ℕ → List ℕ

-- 32 bytes
pub record IsTag (tag : List ℕ) : Type 0 where
  pub size : length tag ≡ 32
  pub bytes : IsBytes tag

-- The law of sealers: names and numbers are each other's, names are bytes from 0x20 to 0x7e, and tags have 32 bytes.
pub record AreLawful (seals : Seals) : Type 0 where
  pub each_others : (provider : ℕ) (name : List ℕ)
      → (seals.number_of name ≡ Some provider) ↔ (seals.name_of provider ≡ Some name)
  pub printable : (provider : ℕ) (name : List ℕ) → seals.name_of provider ≡ Some name → AllPrintable name
  pub tags : (provider : ℕ) (bytes : List ℕ) → IsTag (seals.tag_of provider bytes)

-- the 44 characters of a tag
unfoldable pub tag_text : List ℕ → List ℕ
tag_text tag = encode_of standard tag

-- The parts of a text that begins with a seal line, and what stands behind the line.
pub record Line : Type 0 where
  pub name : List ℕ
  pub tag : List ℕ
  pub bytes : List ℕ

abbrev pub line_text : Line → List ℕ
line_text line =
    codes "X-Sigillo: " ++ (line.name ++ (codes "; " ++ (tag_text line.tag ++ (codes "\r\n" ++ line.bytes))))

-- the text begins with this seal line, whoever sealed it
pub record HasLine (line : Line) (text : List ℕ) : Type 0 where
  pub name : AllPrintable line.name
  pub tag : IsTag line.tag
  pub spelled : text ≡ line_text line

-- the bytes, sealed by the provider of this number, where there is one
abbrev pub sealed : Seals → ℕ → List ℕ → Option (List ℕ)
sealed seals provider bytes =
    let text = λ (name : List ℕ). line_text (record { name = name; tag = seals.tag_of provider bytes; bytes = bytes }) in
    option_map text (seals.name_of provider)

-- ---- why a text isn't sealed

abbrev pub HasNoSeal : List ℕ → Type 0
HasNoSeal text = (line : Line) → HasLine line text → ⊥

pub record HasUnknownName (seals : Seals) (text : List ℕ) : Type 0 where
  pub line : Line
  pub seal : HasLine line text
  pub unknown : seals.number_of line.name ≡ None

pub record HasWrongTag (seals : Seals) (text : List ℕ) : Type 0 where
  pub line : Line
  pub seal : HasLine line text
  pub provider : ℕ
  pub known : seals.number_of line.name ≡ Some provider
  pub wrong : line.tag ≢ seals.tag_of provider line.bytes

abbrev pub IsSealedByNone : Seals → List ℕ → Type 0
IsSealedByNone seals text = (provider : ℕ) (bytes : List ℕ) → sealed seals provider bytes ≡ Some text → ⊥
