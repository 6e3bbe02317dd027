-- What a letter certifies can be written.
use Rattle.std.proofs.Common.{◌≡◌, ℕ, zero, suc, ◌<◌, Bool, true, false, ◌&&◌, ◌||◌, List, [], ◌∷◌, ◌++◌, map, length, slice_get, Option, None, Some, refl, ap, sym, ◌∙◌, subst, arith, ◌↔◌}
use Rattle.std.proofs.lemmas.Bool.{and_parts}
use Rattle.std.proofs.lemmas.Bool.Decides.{nat_tests}
use Rattle.std.specs.List.{AllByRecursion, list_all}
use Rattle.std.specs.Option.{IfSome}
use Rattle.pec_types.specs.Address.{IsLowerAddress}
use Rattle.pec_types.specs.Bytes.{Bytes}
use Rattle.pec_types.specs.Message.{Id}
use Rattle.pec_types.specs.Text.{AllPrintable, is_unprintable}
use Rattle.pec_types.specs.declared.messages.Facts.{Facts}
use Rattle.pec_types.specs.declared.messages.Recipient.{Recipient}
use Rattle.pec_grammar.specs.Grammar.{AllOfSome}
use Rattle.pec_heads.specs.BoundedFacts.{AreBounded, IsShortText}
use Rattle.pec_cert.specs.Certificate.{CanBeWritten}
use Rattle.pec_cert.specs.Stamp.{Instant}
use Rattle.pec_cert.specs.declared.certificates.CertRecipient.{CertRecipient}
use Rattle.pec_directory.specs.Directory.{Provider}
use Rattle.pec_directory.specs.Fields.{has_length, is_name, is_name_byte, longest_name}
use Rattle.pec_directory.specs.Lawful.{AreNext, IsLawful}
use Rattle.pec_letter_facts.proofs.LineLemmas.{Each}
use Rattle.pec_letter_facts.specs.Certifying.{ArePrintable, CanBeReported, certificate_of, name_of, typed}
use Rattle.pec_letter_facts.specs.declared.certifying.Report.{Report}

recipients_lower : (providers : List Provider) (all : List Recipient) → AllByRecursion (λ (r : Recipient). IsLowerAddress r.address) all
    → AllByRecursion (λ (r : CertRecipient). IsLowerAddress r.address) (map (typed providers) all)
recipients_lower providers [] h = tt
recipients_lower providers (r ∷ all) h = (h.0, recipients_lower providers all h.1)

some_lower : (providers : List Provider) (all : List Recipient) → 0 < length all → AllByRecursion (λ (r : Recipient). IsLowerAddress r.address) all
    → AllOfSome (λ (r : CertRecipient). IsLowerAddress r.address) (map (typed providers) all)
some_lower providers [] some h = absurd (omega arith)
some_lower providers (r ∷ all) some h = (h.0, recipients_lower providers all h.1)

printable_text : (text : Option Bytes) → IfSome text IsShortText → IfSome text AllPrintable
printable_text None h = tt
printable_text (Some text) h = h.printable

-- The facts of a head are printable.
pub facts_printable : (facts : Facts) → AreBounded facts → ArePrintable facts
facts_printable facts b = record {
  sender = b.sender;
  recipients = b.recipients;
  reply = b.reply.printable;
  subject = printable_text facts.subject b.subject;
  reference = printable_text facts.reference b.reference;
}

pub can_be_written : (providers : List Provider) (issuer : Bytes) (id : Id) (stamp : Instant) (facts : Facts) (report : Report)
    → AllPrintable (name_of providers id) → AllPrintable issuer → ArePrintable facts → 0 < length facts.recipients → CanBeReported report
    → CanBeWritten (certificate_of providers issuer id stamp facts report)
unfolding certificate_of
can_be_written providers issuer id stamp facts report named called printable some reported = record {
  sender = printable.sender;
  recipients = some_lower providers facts.recipients some printable.recipients;
  reply = printable.reply;
  subject = printable.subject;
  provider = called;
  id = named;
  reference = printable.reference;
  delivered = reported.delivered;
  received = reported.received;
  detail = reported.detail;
}

-- ---- names of providers

name_byte : (b : ℕ) → is_name_byte b ≡ true → is_unprintable b ≡ false
name_byte b e = grind (arith, nat_tests)

name_bytes : (text : Bytes) → list_all is_name_byte text ≡ true → AllByRecursion (λ (b : ℕ). is_unprintable b ≡ false) text
name_bytes [] e = tt
name_bytes (b ∷ text) e = let p = and_parts (is_name_byte b) (list_all is_name_byte text) e in (name_byte b p.0, name_bytes text p.1)

name_printable : Each → (text : Bytes) → is_name text ≡ true → AllPrintable text
unfolding is_name
name_printable each text e = (each text).1 (name_bytes text (and_parts (list_all is_name_byte text) (has_length 1 longest_name text) e).0)

at_number : (earlier providers : List Provider) (number : ℕ) (provider : Provider) → AreNext earlier providers → slice_get providers number ≡ Some provider → is_name provider.name ≡ true
at_number earlier [] number provider next e = absurd cc
at_number earlier (p ∷ providers) zero provider next e = let same : p ≡ provider = cc in subst (λ (q : Provider). is_name q.name ≡ true) same next.0.name
at_number earlier (p ∷ providers) (suc number) provider next e = at_number (earlier ++ p ∷ []) providers number provider next.1 e

-- The name of a provider of a lawful directory is printable.
pub called_printable : Each → (providers : List Provider) (number : ℕ) (provider : Provider) → IsLawful providers → slice_get providers number ≡ Some provider → AllPrintable provider.name
called_printable each providers number provider lawful e = name_printable each provider.name (at_number [] providers number provider lawful.each e)
