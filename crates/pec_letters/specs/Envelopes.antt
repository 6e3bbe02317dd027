-- Transport envelopes (RFC 6109, sections 2.1.2 and 3.1.1, for what they are for; fields, words and order are this project's
-- profile): which text is the envelope of a message. The headlines are `IsEnvelope` and, the same as a function, `envelope_text`.
use Rattle.std.specs.Prelude.{◌≡◌, ℕ, List, [], ◌++◌, Bool, false, Option, Some, None, codes, slice_get}
use Rattle.pec_types.specs.Bytes.{Bytes, Path}
use Rattle.pec_types.specs.Message.{Id}
use Rattle.pec_types.specs.Options.{◌>>=◌}
use Rattle.pec_types.specs.declared.messages.Class.{Class}
use Rattle.pec_types.specs.declared.messages.Class.TheVariants.{Primary, Copy}
use Rattle.pec_types.specs.declared.messages.Facts.{Facts}
use Rattle.pec_types.specs.declared.messages.Recipient.{Recipient}
use Rattle.pec_types.specs.declared.messages.Wish.{Wish}
use Rattle.pec_heads.specs.BoundedFacts.{addresses_where, is_copy, is_primary}
use Rattle.pec_cert.specs.Certificate.{IsCert}
use Rattle.pec_cert.specs.CertificateReading.{cert_text}
use Rattle.pec_cert.specs.Stamp.{Instant}
use Rattle.pec_cert.specs.Zone.{stamp_of}
use Rattle.pec_cert.specs.declared.certificates.CertData.{CertData}
use Rattle.pec_cert.specs.declared.certificates.CertError.TheVariants.{Nothing}
use Rattle.pec_cert.specs.declared.certificates.CertKind.TheVariants.{Envelope}
use Rattle.pec_directory.specs.Directory.{Kept, Provider, first_domain, providers_of}
use Rattle.pec_directory.specs.Fields.{service_at}
use Rattle.pec_seal.specs.Seals.{Seals}
use Rattle.pec_letter_parts.specs.Contents.{Contents, parts_of}
use Rattle.pec_letter_parts.specs.Headings.{Heading}
use Rattle.pec_letter_parts.specs.Sealing.{IsLetterText, letter_text}
use Rattle.pec_letter_parts.specs.declared.headings.Marking.TheVariants.{Transport}
use Rattle.pec_letter_facts.specs.Certifying.{certificate_of, name_of, told_text, with_subject}
use Rattle.pec_letter_facts.specs.declared.certifying.Report.{Report}

-- the word by which the head of an envelope says what it is
abbrev pub envelope_word : Bytes
envelope_word = codes "posta-certificata"

abbrev pub envelope_prefix : Bytes
envelope_prefix = codes "POSTA CERTIFICATA: "

abbrev pub envelope_phrase : Bytes
envelope_phrase = codes "Messaggio di posta certificata; l'originale e' allegato."

-- those of a class
abbrev pub is_of : Class → Recipient → Bool
is_of Primary = is_primary
is_of Copy = is_copy

-- who writes: the provider's address on behalf of the sender
abbrev pub on_behalf : Bytes → Bytes → Bytes
on_behalf sender service = codes "\"Per conto di: " ++ (sender ++ (codes "\" <" ++ (service ++ codes ">")))

-- what an envelope reports: nothing went wrong, and which receipt is wished
abbrev pub envelope_report : Wish → Report
envelope_report wish =
    record { kind = Envelope; error = Nothing; wish = Some wish; delivered = None; received = []; detail = None }

-- the head of an envelope whose values are these
abbrev pub envelope_with : Bytes → Bytes → Bytes → Instant → Facts → Path → Path → Heading
envelope_with name from subject stamp facts to copies = record {
  marking = Transport;
  kind = envelope_word;
  virus = false;
  wish = Some facts.wish;
  name = name;
  reference = facts.reference;
  stamp = stamp;
  from = from;
  reply = Some facts.reply;
  to = to;
  copies = copies;
  subject = subject;
}

-- The head of an envelope.
unfoldable pub envelope_heading : List Provider → Id → Instant → Facts → Heading
envelope_heading providers id stamp facts =
    envelope_with (name_of providers id) (on_behalf facts.sender (service_at (first_domain providers id.provider)))
    (with_subject envelope_prefix facts.subject) stamp facts (addresses_where is_primary facts.recipients)
    (addresses_where is_copy facts.recipients)

-- What is in its parts: the text for people, the original as it was handed in, and what is certified.
abbrev pub envelope_contents : List Provider → Id → Instant → Facts → Bytes → Bytes → Contents
envelope_contents providers id stamp facts original certificate = record {
  text = told_text providers id stamp facts envelope_phrase;
  message = Some original;
  certificate = Some certificate;
}

-- What an envelope certifies.
abbrev pub envelope_certificate : List Provider → Bytes → Id → Instant → Facts → CertData
envelope_certificate providers issuer id stamp facts =
    certificate_of providers issuer id stamp facts (envelope_report facts.wish)

-- The text is the envelope of the message of this name, which was accepted at this moment, with these facts: the provider of the
-- message seals it, by its own clock.
pub record IsEnvelope (seals : Seals) (kept : List Kept) (id : Id) (moment : ℕ) (facts : Facts) (original text : Bytes) : Type 0 where
  pub issuer : Kept
  pub certificate : Bytes
  pub issuer_is : slice_get kept id.provider ≡ Some issuer
  pub certificate_is :
      IsCert (envelope_certificate (providers_of kept) issuer.provider.name id (stamp_of issuer.zone moment) facts) certificate
  pub text_is :
      IsLetterText seals id.provider (envelope_heading (providers_of kept) id (stamp_of issuer.zone moment) facts)
      (parts_of (envelope_contents (providers_of kept) id (stamp_of issuer.zone moment) facts original certificate)) text

-- the parts of an envelope that this provider issues
abbrev pub envelope_parts : List Provider → Id → ℕ → Facts → Bytes → Kept → List Bytes
envelope_parts providers id moment facts original issuer =
    parts_of (envelope_contents providers id (stamp_of issuer.zone moment) facts original
    (cert_text (envelope_certificate providers issuer.provider.name id (stamp_of issuer.zone moment) facts)))

-- the text of an envelope that this provider issues
abbrev pub text_by : Seals → List Provider → Id → ℕ → Facts → Bytes → Kept → Option Bytes
text_by seals providers id moment facts original issuer =
    letter_text seals id.provider (envelope_heading providers id (stamp_of issuer.zone moment) facts)
    (envelope_parts providers id moment facts original issuer)

-- The text of the envelope; none where there is no such provider, or no boundary is free.
unfoldable pub envelope_text : Seals → List Kept → Id → ℕ → Facts → Bytes → Option Bytes
envelope_text seals kept id moment facts original = do
  issuer ← slice_get kept id.provider
  text_by seals (providers_of kept) id moment facts original issuer
