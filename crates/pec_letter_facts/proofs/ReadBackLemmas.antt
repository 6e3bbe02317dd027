-- A composed letter is read, and what is found in it is what it was composed of.
use Rattle.std.proofs.Common.{◌≡◌, ℕ, ◌+◌, ◌<◌, ◌^◌, false, List, [], ◌∷◌, ◌++◌, map, drop, length, Option, None, Some, codes, refl, ap, sym, ◌∙◌, subst, arith}
use Rattle.pec_types.specs.Bytes.{Bytes}
use Rattle.pec_heads.specs.Bytes.{begins_blank, ends_blank, trimmed}
use Rattle.pec_heads.specs.Heads.{IsHead, NamedValue, values_of}
use Rattle.pec_heads.specs.WrittenHeads.{AllStand, Written, field, head_text, shown, with_head}
use Rattle.pec_bodies.specs.Composing.{AllHaveHeads, IsComposed, IsReadAgain, boundary_number, composed_type, placed_from, wholes_of}
use Rattle.pec_bodies.specs.Multiparts.{HasOwnHead, ReadPart}
use Rattle.pec_bodies.specs.Parameters.{IsBoundary}
use Rattle.pec_bodies.specs.ParametersReading.{parameter_of, unquoted, value_named}
use Rattle.pec_cert.specs.Certificate.{IsCert}
use Rattle.pec_cert.specs.declared.certificates.CertData.{CertData}
use Rattle.pec_seal.specs.Seals.{Seals}
use Rattle.pec_letter_parts.specs.Contents.{Contents, certificate_name, message_name, part_fields, part_text, parts_of}
use Rattle.pec_letter_parts.specs.Headings.{Heading, letter_fields}
use Rattle.pec_letter_parts.specs.Letters.{IsLetter, Letter, body_of}
use Rattle.pec_letter_parts.specs.Sealing.{IsLetterText}
use Rattle.pec_letter_parts.specs.declared.contents.PartKind.{PartKind}
use Rattle.pec_letter_parts.specs.declared.contents.PartKind.TheVariants.{Text, Message, Certificate}
use Rattle.pec_letter_facts.proofs.LineLemmas.{Laws, letter_stands, part_stands}
use Rattle.pec_letter_facts.proofs.LookupLemmas.{Folded, found_in_letter, type_found}
use Rattle.pec_letter_facts.specs.ReadBack.{CanBeHeaded, IsReadAs, IsReadBack}

-- ---- parts

abbrev read_part : PartKind → Bytes → ReadPart
read_part kind body = record { start = 0; whole = part_text kind body; head = map shown (part_fields kind); body = body }

abbrev optional_read : PartKind → Option Bytes → List ReadPart
optional_read kind None = []
optional_read kind (Some body) = read_part kind body ∷ []

-- the parts of a letter as they are read, each at no place yet
abbrev read_parts : Bytes → Option Bytes → Option Bytes → List ReadPart
read_parts text message certificate = read_part Text text ∷ (optional_read Message message ++ optional_read Certificate certificate)

abbrev contents_of : Bytes → Option Bytes → Option Bytes → Contents
contents_of text message certificate = record { text = text; message = message; certificate = certificate }

wholes : (text : Bytes) (message certificate : Option Bytes) → wholes_of (read_parts text message certificate) ≡ parts_of (contents_of text message certificate)
unfolding parts_of
wholes text None None = refl
wholes text None (Some certificate) = refl
wholes text (Some message) None = refl
wholes text (Some message) (Some certificate) = refl

some : (text : Bytes) (message certificate : Option Bytes) → 0 < length (read_parts text message certificate)
some text message certificate = omega arith

cert_found : (b text : Bytes) (message certificate : Option Bytes) → body_of certificate_name (placed_from b 0 (read_parts text message certificate)) ≡ certificate
unfolding body_of parameter_of value_named unquoted trimmed
cert_found b text None None = refl
cert_found b text None (Some certificate) = refl
cert_found b text (Some message) None = refl
cert_found b text (Some message) (Some certificate) = refl

message_found : (b text : Bytes) (message certificate : Option Bytes) → body_of message_name (placed_from b 0 (read_parts text message certificate)) ≡ message
unfolding body_of parameter_of value_named unquoted trimmed
message_found b text None None = refl
message_found b text None (Some certificate) = refl
message_found b text (Some message) None = refl
message_found b text (Some message) (Some certificate) = refl

-- what the laws of written heads and composed bodies say
pub record Reading : Type 0 where
  pub heads : (fields : List Written) (body : Bytes) → AllStand fields → IsHead (with_head fields body) (map shown fields) (length (head_text fields) + 2)
  pub behind : (fields : List Written) (body : Bytes) → drop (length (head_text fields) + 2) (with_head fields body) ≡ body
  pub again : (parts : List ReadPart) (n : ℕ) (body : Bytes) → 0 < length parts → AllHaveHeads parts → IsComposed (wholes_of parts) n body → IsReadAgain parts n body
  pub boundary : (head : List NamedValue) (n : ℕ) (others : List Bytes) → n < 2 ^ 64 → values_of (codes "Content-Type") head ≡ composed_type n ∷ others → IsBoundary head (boundary_number n)
  pub types : (n : ℕ) → shown (field (codes "Content-Type") (composed_type n)) ≡ record { name = codes "Content-Type"; value = composed_type n }
  pub kept : (value : Bytes) → begins_blank value ≡ false → ends_blank value ≡ false → trimmed value ≡ value
  pub folded : Folded

module _ (laws : Laws) (reading : Reading) where
  own : (kind : PartKind) (body : Bytes) → HasOwnHead (read_part kind body)
  own kind body = record {
    place = length (head_text (part_fields kind)) + 2;
    head_is = reading.heads (part_fields kind) body (part_stands laws kind);
    body_is = sym (reading.behind (part_fields kind) body);
  }

  all_own : (text : Bytes) (message certificate : Option Bytes) → AllHaveHeads (read_parts text message certificate)
  all_own text None None = (own Text text, tt)
  all_own text None (Some certificate) = (own Text text, (own Certificate certificate, tt))
  all_own text (Some message) None = (own Text text, (own Message message, tt))
  all_own text (Some message) (Some certificate) = (own Text text, (own Message message, (own Certificate certificate, tt)))

  -- Of a composed text its head and its parts are read.
  pub read_as : (seals : Seals) (provider : ℕ) (h : Heading) (contents : Contents) (text : Bytes)
      → CanBeHeaded h → IsLetterText seals provider h (parts_of contents) text → IsReadAs seals provider h contents text
  read_as seals provider h contents text can is =
      let n = is.number
      in let b = boundary_number n
      in let fields = letter_fields h n
      in let fits : n < 2 ^ 64 = is.composed.number.fits
      in let parts = read_parts contents.text contents.message contents.certificate
      in let composed : IsComposed (wholes_of parts) n is.body = subst (λ (all : List Bytes). IsComposed all n is.body) (sym (wholes contents.text contents.message contents.certificate)) is.composed
      in let stands : AllStand fields = letter_stands laws h n can fits
      in let bounded : IsBoundary (map shown fields) b =
      reading.boundary (map shown fields) n [] fits (type_found h n (ap (λ (v : NamedValue). v.value) (reading.types n)))
      in record {
        read = record { sealer = provider; head = map shown fields; body = is.body };
        parts = placed_from b 0 parts;
        headed = record {
          bytes = with_head fields is.body;
          place = length (head_text fields) + 2;
          opens = is.text_is;
          head_is = reading.heads fields is.body stands;
          body_is = sym (reading.behind fields is.body);
        };
        parts_are =
            reading.again parts n is.body (some contents.text contents.message contents.certificate) (all_own contents.text contents.message contents.certificate) composed
            (map shown fields) bounded;
        sealer = refl;
        found = found_in_letter reading.folded reading.kept h n can;
        contents_are = record {
          message = message_found b contents.text contents.message contents.certificate;
          certificate = cert_found b contents.text contents.message contents.certificate;
        };
      }

-- A letter that certifies is read back.
pub read_back : (seals : Seals) (provider : ℕ) (h : Heading) (contents : Contents) (cert : CertData) (certificate text : Bytes)
    → contents.certificate ≡ Some certificate → IsCert cert certificate → IsReadAs seals provider h contents text
    → (letter : Letter) × (IsLetter seals text letter × IsReadBack provider h contents.message cert letter)
read_back seals provider h contents cert certificate text has is_cert is = (
  record { sealer = is.read.sealer; head = is.read.head; parts = is.parts; cert = cert },
  (
    (
      is.read,
      (
        is.headed,
        record {
          sealer_is = refl;
          head_is = refl;
          parts_are = is.parts_are;
          cert_is = record { text = certificate; part = is.contents_are.certificate ∙ has; text_is = is_cert };
        },
      ),
    ),
    record { sealer = is.sealer; cert_is = refl; found = is.found; message_is = is.contents_are.message },
  ),
)
