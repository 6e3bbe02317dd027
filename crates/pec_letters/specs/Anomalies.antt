-- Anomaly envelopes, in which a provider hands on what isn't certified mail (RFC 6109, section 3.2, for what they are for; fields,
-- words and order are this project's profile). The headlines are `IsAnomaly` and, the same as a function, `anomaly_text`.
use Rattle.std.specs.Prelude.{◌≡◌, ℕ, List, [], ◌∷◌, ◌++◌, false, Option, Some, None, codes, slice_get}
use Rattle.std.specs.Result.{result_ok}
use Rattle.std.specs.Fmt.{decimal}
use Rattle.pec_types.specs.Bytes.{Bytes}
use Rattle.pec_types.specs.Options.{◌>>=◌}
use Rattle.pec_heads.specs.FactsOfHeads.{text_of}
use Rattle.pec_heads.specs.HeadReading.{read_of}
use Rattle.pec_heads.specs.Heads.{NamedValue}
use Rattle.pec_cert.specs.HeaderDate.{day_line_of}
use Rattle.pec_cert.specs.Stamp.{Instant}
use Rattle.pec_cert.specs.Zone.{stamp_of}
use Rattle.pec_directory.specs.Directory.{Kept, first_of}
use Rattle.pec_directory.specs.Fields.{service_at}
use Rattle.pec_seal.specs.Seals.{Seals}
use Rattle.pec_letter_parts.specs.Contents.{Contents, lines_text, parts_of}
use Rattle.pec_letter_parts.specs.Headings.{Heading}
use Rattle.pec_letter_parts.specs.Sealing.{IsLetterText, letter_text}
use Rattle.pec_letter_parts.specs.declared.headings.Marking.TheVariants.{Transport}
use Rattle.pec_letter_facts.specs.Certifying.{with_subject}

-- the word by which the head of an anomaly says what it is
abbrev pub anomaly_word : Bytes
anomaly_word = codes "errore"

abbrev pub anomaly_prefix : Bytes
anomaly_prefix = codes "ANOMALIA MESSAGGIO: "

abbrev pub anomaly_phrase : Bytes
anomaly_phrase = codes "Messaggio non di posta certificata; e' allegato."

-- the subject of a head, where it was read
abbrev pub subject_in : Option (List NamedValue × ℕ) → Option Bytes
subject_in (Some read) = text_of (codes "Subject") read.0
subject_in None = None

-- the subject of the head that a message begins with; none where it begins with no head
unfoldable pub subject_of : Bytes → Option Bytes
subject_of message = subject_in (result_ok (read_of message))

-- `ano.NUMBER@DOMAIN`: the number is that of the entry that the provider keeps of the message
abbrev pub anomaly_name : Bytes → ℕ → Bytes
anomaly_name domain number = codes "ano." ++ (decimal number ++ (codes "@" ++ domain))

-- the head of an anomaly whose values are these
abbrev pub anomaly_with : Bytes → Bytes → Bytes → Instant → Heading
anomaly_with name from subject stamp = record {
  marking = Transport;
  kind = anomaly_word;
  virus = false;
  wish = None;
  name = name;
  reference = None;
  stamp = stamp;
  from = from;
  reply = None;
  to = [];
  copies = [];
  subject = subject;
}

-- The head of an anomaly.
unfoldable pub anomaly_heading : Bytes → ℕ → Instant → Bytes → Heading
anomaly_heading domain number stamp message =
    anomaly_with (anomaly_name domain number) (service_at domain) (with_subject anomaly_prefix (subject_of message)) stamp

-- What is in its parts: the text for people, and the message as it came.
abbrev pub anomaly_contents : Instant → Bytes → Contents
anomaly_contents stamp message =
    record { text = lines_text (day_line_of stamp ∷ anomaly_phrase ∷ []); message = Some message; certificate = None }

-- The text is the anomaly envelope in which a provider hands on the message, at this moment and with this number.
pub record IsAnomaly (seals : Seals) (kept : List Kept) (provider number moment : ℕ) (message text : Bytes) : Type 0 where
  pub issuer : Kept
  pub issuer_is : slice_get kept provider ≡ Some issuer
  pub text_is :
      IsLetterText seals provider (anomaly_heading (first_of issuer.provider.domains) number (stamp_of issuer.zone moment) message)
      (parts_of (anomaly_contents (stamp_of issuer.zone moment) message)) text

-- The text of the anomaly envelope; none where there is no such provider, or no boundary is free.
unfoldable pub anomaly_text : Seals → List Kept → ℕ → ℕ → ℕ → Bytes → Option Bytes
anomaly_text seals kept provider number moment message = do
  issuer ← slice_get kept provider
  letter_text seals provider (anomaly_heading (first_of issuer.provider.domains) number (stamp_of issuer.zone moment) message)
      (parts_of (anomaly_contents (stamp_of issuer.zone moment) message))
