-- What is made of parts that are equal is equal.
use Rattle.std.proofs.Common.{◌≡◌, List, [], ◌∷◌, Option, refl, ap, ◌∙◌}
use Rattle.pec_types.specs.Bytes.{Bytes}
use Rattle.pec_types.specs.declared.messages.Facts.{Facts}
use Rattle.pec_cert.specs.Stamp.{Instant}
use Rattle.pec_cert.specs.declared.certificates.CertData.{CertData}
use Rattle.pec_cert.specs.declared.certificates.CertRecipient.{CertRecipient}
use Rattle.pec_letter_parts.specs.Contents.{lines_text}
use Rattle.pec_letter_facts.specs.declared.certifying.Report.{Report}

abbrev pub made : Report → Instant → Bytes → Bytes → List CertRecipient → Facts → CertData
made report stamp issuer id recipients facts = record {
  kind = report.kind;
  error = report.error;
  sender = facts.sender;
  recipients = recipients;
  reply = facts.reply;
  subject = facts.subject;
  provider = issuer;
  stamp = stamp;
  id = id;
  reference = facts.reference;
  wish = report.wish;
  delivered = report.delivered;
  received = report.received;
  detail = report.detail;
}

pub made_alike : (report : Report) (stamp : Instant) (issuer issuer' id id' : Bytes) (recipients recipients' : List CertRecipient) (facts facts' : Facts)
    → issuer ≡ issuer' → id ≡ id' → recipients ≡ recipients' → facts ≡ facts' → made report stamp issuer id recipients facts ≡ made report stamp issuer' id' recipients' facts'
made_alike report stamp issuer issuer' id id' recipients recipients' facts facts' a b c d =
    ap (λ (x : Bytes). made report stamp x id recipients facts) a ∙ ap (λ (x : Bytes). made report stamp issuer' x recipients facts) b
    ∙ ap (λ (x : List CertRecipient). made report stamp issuer' id' x facts) c ∙ ap (λ (x : Facts). made report stamp issuer' id' recipients' x) d

-- facts of which what a certificate repeats was copied
abbrev pub copied : Facts → Bytes → Bytes → Option Bytes → Option Bytes → Facts
copied facts sender reply subject reference = record {
  sender = sender;
  recipients = facts.recipients;
  wish = facts.wish;
  subject = subject;
  reference = reference;
  reply = reply;
}

pub copied_alike : (facts : Facts) (sender reply : Bytes) (subject reference : Option Bytes)
    → sender ≡ facts.sender → reply ≡ facts.reply → subject ≡ facts.subject → reference ≡ facts.reference
    → copied facts sender reply subject reference ≡ facts
copied_alike facts sender reply subject reference a b c d = rw (a, b, c, d) refl

pub lines_alike : (a a' b b' c c' d d' e : Bytes) → a ≡ a' → b ≡ b' → c ≡ c' → d ≡ d' → lines_text (a ∷ b ∷ c ∷ d ∷ e ∷ []) ≡ lines_text (a' ∷ b' ∷ c' ∷ d' ∷ e ∷ [])
lines_alike a a' b b' c c' d d' e p q r s =
    ap (λ (x : Bytes). lines_text (x ∷ b ∷ c ∷ d ∷ e ∷ [])) p ∙ ap (λ (x : Bytes). lines_text (a' ∷ x ∷ c ∷ d ∷ e ∷ [])) q
    ∙ ap (λ (x : Bytes). lines_text (a' ∷ b' ∷ x ∷ d ∷ e ∷ [])) r ∙ ap (λ (x : Bytes). lines_text (a' ∷ b' ∷ c' ∷ x ∷ e ∷ [])) s
