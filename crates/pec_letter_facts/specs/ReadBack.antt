-- What is read of a letter that was composed: which headings may stand in a letter (`CanBeHeaded`), and what is found in it
-- (`IsReadAs` and `IsReadBack`).
use Rattle.std.specs.Prelude.{◌≡◌, ◌≤◌, ℕ, List, [], ◌∷◌, Option, Some, None, length, codes}
use Rattle.std.specs.List.{AllByRecursion}
use Rattle.std.specs.Option.{IfSome, option_map}
use Rattle.pec_types.specs.Address.{IsLowerAddress}
use Rattle.pec_types.specs.Bytes.{Bytes, Path}
use Rattle.pec_types.specs.Text.{AllPrintable}
use Rattle.pec_types.specs.Words.{wish_word}
use Rattle.pec_heads.specs.Bytes.{trimmed}
use Rattle.pec_heads.specs.FactsOfHeads.{first_value}
use Rattle.pec_heads.specs.Heads.{NamedValue, values_of}
use Rattle.pec_heads.specs.WrittenHeads.{addresses_text}
use Rattle.pec_bodies.specs.Multiparts.{IsParts, ReadPart}
use Rattle.pec_cert.specs.HeaderDate.{header_date_of}
use Rattle.pec_cert.specs.Stamp.{IsStamp}
use Rattle.pec_cert.specs.declared.certificates.CertData.{CertData}
use Rattle.pec_seal.specs.Seals.{Seals}
use Rattle.pec_letter_parts.specs.Contents.{Contents, certificate_name, message_name}
use Rattle.pec_letter_parts.specs.Headings.{Heading, angled}
use Rattle.pec_letter_parts.specs.Letters.{Headed, IsHeaded, Letter, body_of}
use Rattle.pec_letter_facts.specs.Questions.{marking_of}
use Rattle.pec_heads.specs.declared.TheConstants.{TEXT_LIMIT}
use Rattle.pec_letter_facts.specs.declared.TheConstants.{VALUE_LIMIT}

-- a value of one line: printable, and short enough for every field of a letter
pub record IsShortLine (value : Bytes) : Type 0 where
  pub printable : AllPrintable value
  pub short : length value ≤ VALUE_LIMIT

-- a value that is read as it is written: without blanks at its ends
pub record IsWholeLine (value : Bytes) : Type 0 where
  pub line : IsShortLine value
  pub whole : trimmed value ≡ value

-- a subject: printable, with at most 900 bytes
pub record IsSubject (subject : Bytes) : Type 0 where
  pub printable : AllPrintable subject
  pub short : length subject ≤ TEXT_LIMIT

-- A heading that may stand in a letter, and is read as it is.
pub record CanBeHeaded (h : Heading) : Type 0 where
  pub kind : IsWholeLine h.kind
  pub name : IsShortLine (angled h.name)
  pub reference : IfSome h.reference IsWholeLine
  pub stamp : IsStamp h.stamp
  pub from : IsShortLine h.from
  pub reply : IfSome h.reply IsShortLine
  pub to : AllByRecursion IsLowerAddress h.to
  pub copies : AllByRecursion IsLowerAddress h.copies
  pub subject : IsShortLine h.subject

-- the value of a field of addresses, where there are any
abbrev pub listed_values : Path → List Bytes
listed_values [] = []
listed_values (address ∷ addresses) = addresses_text (address ∷ addresses) ∷ []

-- What is found in a head that was composed of this heading.
pub record IsFound (h : Heading) (head : List NamedValue) : Type 0 where
  pub marking : marking_of head ≡ Some (h.marking, h.kind)
  pub wish : first_value (codes "X-TipoRicevuta") head ≡ option_map wish_word h.wish
  pub name : first_value (codes "Message-ID") head ≡ Some (angled h.name)
  pub reference : first_value (codes "X-Riferimento-Message-ID") head ≡ h.reference
  pub date : first_value (codes "Date") head ≡ Some (header_date_of h.stamp)
  pub to : values_of (codes "To") head ≡ listed_values h.to
  pub copies : values_of (codes "Cc") head ≡ listed_values h.copies

-- What is found in parts that were composed of these contents.
pub record HasContents (contents : Contents) (parts : List ReadPart) : Type 0 where
  pub message : body_of message_name parts ≡ contents.message
  pub certificate : body_of certificate_name parts ≡ contents.certificate

-- What is read of a text that was composed of this heading and these contents: its head, and its parts behind it.
pub record IsReadAs (seals : Seals) (provider : ℕ) (h : Heading) (contents : Contents) (text : Bytes) : Type 0 where
  pub read : Headed
  pub parts : List ReadPart
  pub headed : IsHeaded seals text read
  pub parts_are : IsParts read.head read.body parts
  pub sealer : read.sealer ≡ provider
  pub found : IsFound h read.head
  pub contents_are : HasContents contents parts

-- What is found in the letter with this heading, message and certificate, which a provider sealed.
pub record IsReadBack (provider : ℕ) (h : Heading) (message : Option Bytes) (cert : CertData) (letter : Letter) : Type 0 where
  pub sealer : letter.sealer ≡ provider
  pub cert_is : letter.cert ≡ cert
  pub found : IsFound h letter.head
  pub message_is : body_of message_name letter.parts ≡ message
