-- The heads of letters of certified mail: which fields they have and in which order (RFC 6109, section 3, for what they are for;
-- order, names and words are this project's profile). The headlines are `heading_fields` and `letter_fields`, at
-- the end.
use Rattle.std.specs.Prelude.{ℕ, List, [], ◌∷◌, ◌++◌, Bool, true, false, Option, None, Some, codes}
use Rattle.std.specs.Option.{option_map}
use Rattle.pec_types.specs.Bytes.{Bytes, Path}
use Rattle.pec_types.specs.Words.{wish_word}
use Rattle.pec_types.specs.declared.messages.Wish.{Wish}
use Rattle.pec_heads.specs.WrittenHeads.{Written, field, list_field}
use Rattle.pec_bodies.specs.Composing.{composed_type}
use Rattle.pec_cert.specs.HeaderDate.{header_date_of}
use Rattle.pec_cert.specs.Stamp.{Instant}
use Rattle.pec_letter_parts.specs.declared.headings.Marking.{Marking}
use Rattle.pec_letter_parts.specs.declared.headings.Marking.TheVariants.{Transport, Receipt, Reply}

-- What stands in the head of a letter, field by field. The name is without its angle brackets; what may be absent is an option,
-- and a list without addresses is no field.
pub record Heading : Type 0 where
  pub marking : Marking
  pub kind : Bytes
  pub virus : Bool
  pub wish : Option Wish
  pub name : Bytes
  pub reference : Option Bytes
  pub stamp : Instant
  pub from : Bytes
  pub reply : Option Bytes
  pub to : Path
  pub copies : Path
  pub subject : Bytes

-- ---- what may be absent

abbrev pub optional_field : Bytes → Option Bytes → List Written
optional_field name None = []
optional_field name (Some value) = field name value ∷ []

abbrev pub address_field : Bytes → Path → List Written
address_field name [] = []
address_field name (address ∷ addresses) = list_field name (address ∷ addresses) ∷ []

abbrev pub virus_field : Bool → List Written
virus_field true = field (codes "X-VerificaSicurezza") (codes "errore") ∷ []
virus_field false = []

-- ---- fields

-- the name of the field that says what a letter is
abbrev pub marking_name : Marking → Bytes
marking_name Transport = codes "X-Trasporto"
marking_name Receipt = codes "X-Ricevuta"
marking_name Reply = codes "X-Riscontro"

-- a name in angle brackets (RFC 5322, section 3.6.4)
abbrev pub angled : Bytes → Bytes
angled name = codes "<" ++ (name ++ codes ">")

-- what the letter is
abbrev pub marks_of : Heading → List Written
marks_of h =
    field (marking_name h.marking) h.kind
    ∷ (virus_field h.virus
    ++ optional_field (codes "X-TipoRicevuta") (option_map wish_word h.wish))

-- how it is named, and when it was composed
abbrev pub names_of : Heading → List Written
names_of h =
    field (codes "Message-ID") (angled h.name)
    ∷ (optional_field (codes "X-Riferimento-Message-ID") h.reference
    ++ field (codes "Date") (header_date_of h.stamp) ∷ [])

-- who writes to whom
abbrev pub parties_of : Heading → List Written
parties_of h =
    field (codes "From") h.from
    ∷ (optional_field (codes "Reply-To") h.reply
    ++ (address_field (codes "To") h.to
    ++ address_field (codes "Cc") h.copies))

-- The fields of a letter's head, in their order, without the seal line before them and the fields of a multipart behind them.
unfoldable pub heading_fields : Heading → List Written
heading_fields h = marks_of h ++ (names_of h ++ (parties_of h ++ field (codes "Subject") h.subject ∷ []))

-- the fields of a multipart, with the boundary of this number (RFC 2045, sections 4 and 5)
unfoldable pub multipart_fields : ℕ → List Written
multipart_fields number = field (codes "MIME-Version") (codes "1.0") ∷ field (codes "Content-Type") (composed_type number) ∷ []

-- The fields of the head of a letter with parts.
abbrev pub letter_fields : Heading → ℕ → List Written
letter_fields h number = heading_fields h ++ multipart_fields number
