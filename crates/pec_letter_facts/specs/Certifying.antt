-- What letters of certified mail say of a message (RFC 6109, section 4.4, for what it is for; words and order are this project's
-- profile): its certification data (`certificate_of`), and the text for people (`told_text`).
use Rattle.std.specs.Prelude.{ℕ, List, [], ◌∷◌, ◌++◌, map, Option, Some, None, codes}
use Rattle.std.specs.List.{AllByRecursion}
use Rattle.std.specs.Option.{IfSome}
use Rattle.pec_types.specs.Address.{IsLowerAddress}
use Rattle.pec_types.specs.Bytes.{Bytes}
use Rattle.pec_types.specs.Message.{Id}
use Rattle.pec_types.specs.Text.{AllPrintable}
use Rattle.pec_types.specs.Words.{id_text}
use Rattle.pec_types.specs.declared.messages.Facts.{Facts}
use Rattle.pec_types.specs.declared.messages.Recipient.{Recipient}
use Rattle.pec_cert.specs.HeaderDate.{day_line_of}
use Rattle.pec_cert.specs.Stamp.{Instant}
use Rattle.pec_cert.specs.declared.certificates.CertData.{CertData}
use Rattle.pec_cert.specs.declared.certificates.CertRecipient.{CertRecipient}
use Rattle.pec_directory.specs.Directory.{Provider, first_domain, is_certified}
use Rattle.pec_letter_parts.specs.Contents.{lines_text}
use Rattle.pec_letter_facts.specs.declared.certifying.Report.{Report}

-- the name of a message, `pec.NNNNNNN@DOMAIN`, as all letters about it print it
abbrev pub name_of : List Provider → Id → Bytes
name_of providers id = id_text (first_domain providers id.provider) id.number

-- a recipient as it is certified: whether its address is a certified one stands beside it
abbrev pub typed : List Provider → Recipient → CertRecipient
typed providers recipient = record { address = recipient.address; certified = is_certified providers recipient.address }

-- What a letter certifies of a message: the facts of its head, the name of the message, the provider that issues the letter, the
-- stamp, and what this letter reports.
unfoldable pub certificate_of : List Provider → Bytes → Id → Instant → Facts → Report → CertData
certificate_of providers issuer id stamp facts report = record {
  kind = report.kind;
  error = report.error;
  sender = facts.sender;
  recipients = map (typed providers) facts.recipients;
  reply = facts.reply;
  subject = facts.subject;
  provider = issuer;
  stamp = stamp;
  id = name_of providers id;
  reference = facts.reference;
  wish = report.wish;
  delivered = report.delivered;
  received = report.received;
  detail = report.detail;
}

-- facts that can be certified: addresses in lower case and printable texts, as every value of these types has
pub record ArePrintable (facts : Facts) : Type 0 where
  pub sender : IsLowerAddress facts.sender
  pub recipients : AllByRecursion (λ (r : Recipient). IsLowerAddress r.address) facts.recipients
  pub reply : AllPrintable facts.reply
  pub subject : IfSome facts.subject AllPrintable
  pub reference : IfSome facts.reference AllPrintable

-- what a letter may report: addresses in lower case and printable words
pub record CanBeReported (report : Report) : Type 0 where
  pub delivered : IfSome report.delivered IsLowerAddress
  pub received : AllByRecursion IsLowerAddress report.received
  pub detail : IfSome report.detail AllPrintable

-- a prefix and a subject; an absent subject is the empty text
abbrev pub with_subject : Bytes → Option Bytes → Bytes
with_subject prefix None = prefix ++ []
with_subject prefix (Some subject) = prefix ++ subject

-- The text for people: when, who, about what, the name of the message, and a phrase that says what happened.
unfoldable pub told_text : List Provider → Id → Instant → Facts → Bytes → Bytes
told_text providers id stamp facts phrase =
    lines_text (day_line_of stamp ∷ (codes "Mittente: " ++ facts.sender) ∷ with_subject (codes "Oggetto: ") facts.subject
    ∷ (codes "Identificativo: " ++ name_of providers id) ∷ phrase ∷ [])
