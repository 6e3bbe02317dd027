-- The same as in `Certificate`, as functions, for definitions that build on it: the text of a certificate
-- (`cert_text`), and the certificate that a text is, or its fault (`cert_of`), at the end. `a_certificate_has_one_text`
-- and `a_text_has_one_answer` say that relations and functions agree.
use Rattle.std.specs.Prelude.{◌-◌, List, [], ◌∷◌, ◌++◌, length, map, Option, Some, None, Result, Ok, Err, codes, if◌then◌else◌}
use Rattle.pec_types.specs.Bytes.{Bytes}
use Rattle.pec_grammar.specs.Grammar.{ending}
use Rattle.pec_cert.specs.Certificate.{Value, address, clock, lines_of, before_shown, values}
use Rattle.pec_cert.specs.Clock.{shown_of}
use Rattle.pec_cert.specs.Front.{wrong_in}
use Rattle.pec_cert.specs.Lines.{text_of}
use Rattle.pec_cert.specs.LinesReading.{lines_at}
use Rattle.pec_cert.specs.Shown.{before_part}
use Rattle.pec_cert.specs.Stamp.{Instant}
use Rattle.pec_cert.specs.ValueTests.{is_lower, stamp_in}
use Rattle.pec_cert.specs.declared.certificates.CertData.{CertData}
use Rattle.pec_cert.specs.declared.certificates.CertRecipient.{CertRecipient}
use Rattle.pec_cert.specs.declared.dates.Part.{Part}
use Rattle.pec_cert.specs.declared.faults.CertFault.{CertFault}
use Rattle.pec_cert.specs.declared.faults.CertFault.TheVariants.{Syntax, BadDate, BadAddress}
use Rattle.pec_cert.specs.declared.lines.Addressee.{Addressee}
use Rattle.pec_cert.specs.declared.lines.Lines.{Lines}
use Rattle.pec_cert.specs.declared.stamps.Shown.{Shown}

-- the one text of a certificate
abbrev pub cert_text : CertData → Bytes
cert_text c = text_of (lines_of c (shown_of c.stamp))

-- The values of a text, by tests.

-- the fault of a date, if it has one
abbrev pub date_fault : Bytes → Shown → Result Instant Part → Option CertFault
date_fault front shown (Ok stamp) = None
date_fault front shown (Err part) = Some (BadDate (length (before_part front shown part)))

-- the fault of a value behind the bytes that stand before it, if it has one
abbrev pub fault_in : Bytes → Value → Option CertFault
fault_in front (address bytes) = if is_lower bytes then None else Some (BadAddress (length front))
fault_in front (clock shown) = date_fault front shown (stamp_in shown)

-- the fault here, or else a later one
abbrev pub or_later : Option CertFault → Option CertFault → Option CertFault
or_later (Some fault) later = Some fault
or_later None later = later

-- the fault of the first value that has one
unfoldable pub first_fault : List (Bytes × Value) → Option CertFault
first_fault [] = None
first_fault (v ∷ vs) = or_later (fault_in v.0 v.1) (first_fault vs)

-- The certificate of a text.

-- a recipient, from its line
abbrev pub recipient_from : Addressee → CertRecipient
recipient_from r = record { address = r.address; certified = r.certified }

-- what lines say whose moment is this
abbrev pub cert_from : Lines → Instant → CertData
cert_from l stamp = record {
  kind = l.kind;
  error = l.error;
  sender = l.sender;
  recipients = map recipient_from l.recipients;
  reply = l.reply;
  subject = l.subject;
  provider = l.provider;
  stamp = stamp;
  id = l.id;
  reference = l.reference;
  wish = l.wish;
  delivered = l.delivered;
  received = l.received;
  detail = l.detail;
}

-- the certificate of lines whose moment is in range, or the fault of their date
abbrev pub dated : Lines → Result Instant Part → Result CertData CertFault
dated l (Ok stamp) = Ok (cert_from l stamp)
dated l (Err part) = Err (BadDate (length (before_part (before_shown l ++ codes "<data zona=\"") l.shown part)))

-- the fault of a value comes before all else
abbrev pub unless_fault : Option CertFault → Result CertData CertFault → Result CertData CertFault
unless_fault (Some fault) cert = Err fault
unless_fault None cert = cert

-- what the lines of a text say; or the first wrong value in front of the place at which it stops having the shape of a
-- certification text, and that place where there is none
abbrev pub said_by : Bytes → Result Lines Bytes → Result CertData CertFault
said_by text (Err stop) = unless_fault (wrong_in text) (Err (Syntax (length text - length stop)))
said_by text (Ok l) = unless_fault (first_fault (values l)) (dated l (stamp_in l.shown))

-- the certificate that a text is, or its first fault
unfoldable pub cert_of : Bytes → Result CertData CertFault
cert_of text = said_by text (ending (lines_at (record { rest = text; farthest = text })))
