-- The text that the function gives is the receipt, and there is one.
use Rattle.std.proofs.Common.{◌≡◌, ◌↔◌, ℕ, ◌<◌, ◌^◌, Bool, true, false, cond, List, [], ◌∷◌, ◌++◌, length, slice_get, Option, None, Some, option_map, IsSome, refl, sym, ap, subst, ◌∙◌}
use Rattle.std.proofs.lemmas.Option.{slice_get-map}
use Rattle.std.specs.List.{AllByRecursion}
use Rattle.std.specs.Option.{IfSome, option_and_then}
use Rattle.pec_types.specs.Address.{IsLowerAddress}
use Rattle.pec_types.specs.Bytes.{Bytes}
use Rattle.pec_types.specs.Options.{◌>>=◌}
use Rattle.pec_types.specs.Text.{AllPrintable}
use Rattle.pec_types.specs.declared.messages.Recipient.{Recipient}
use Rattle.pec_types.specs.declared.moments.TheConstants.{END_OF_TIME}
use Rattle.pec_heads.specs.WrittenHeads.{with_head}
use Rattle.pec_bodies.specs.Composing.{boundary_number, composed_body, composed_number, joined_parts}
use Rattle.pec_cert.specs.Certificate.{CanBeWritten, IsCert}
use Rattle.pec_cert.specs.CertificateReading.{cert_text}
use Rattle.pec_cert.specs.Stamp.{IsStamp}
use Rattle.pec_cert.specs.Zone.{stamp_of}
use Rattle.pec_cert.specs.declared.certificates.CertData.{CertData}
use Rattle.pec_directory.specs.Directory.{Kept, Provider, home_of, is_number, providers_of}
use Rattle.pec_directory.specs.Lawful.{IsLawful}
use Rattle.pec_seal.specs.Seals.{Seals, line_text, sealed}
use Rattle.pec_letter_parts.specs.Headings.{Heading, heading_fields, letter_fields}
use Rattle.pec_letter_parts.specs.Sealing.{IsLetterText, letter_text}
use Rattle.pec_letter_facts.specs.Certifying.{ArePrintable, CanBeReported, certificate_of}
use Rattle.pec_receipts.proofs.AckLemmas.{named_one}
use Rattle.pec_receipts.proofs.CauseLemmas.{HavePlaces}
use Rattle.pec_receipts.proofs.ComposeLemmas.{words_of}
use Rattle.pec_receipts.specs.Kinds.{Row, Said, row_of}
use Rattle.pec_receipts.specs.Receipts.{CanBeGiven, IsNamed, IsReceipt, IsReceiptBy, ack_body, ack_heading, addresses_at, delivered_to, receipt_certificate, receipt_heading, receipt_parts, receipt_text, received_by, report_of, text_by}
use Rattle.pec_receipts.specs.declared.kinds.About.{About}
use Rattle.pec_receipts.specs.declared.kinds.About.TheVariants as about
use Rattle.pec_receipts.specs.declared.receipts.Receipt.{Receipt}

-- ---- what a receipt reports can be written

lower_home : (t : Bool) (address : Bytes) (rest : List Bytes) → IsLowerAddress address → AllByRecursion IsLowerAddress rest
    → AllByRecursion IsLowerAddress (cond t (address ∷ []) [] ++ rest)
lower_home true address rest a b = (a, b)
lower_home false address rest a b = b

received_lower : (providers : List Provider) (number : ℕ) (all : List Recipient) → AllByRecursion (λ (r : Recipient). IsLowerAddress r.address) all
    → AllByRecursion IsLowerAddress (addresses_at providers number all)
unfolding addresses_at
received_lower providers number [] lower = tt
received_lower providers number (r ∷ all) lower =
    lower_home (is_number number (home_of providers r.address)) r.address (addresses_at providers number all) lower.0
    (received_lower providers number all lower.1)

all_received : (providers : List Provider) (r : Receipt) (row_about : About) → ArePrintable r.facts
    → AllByRecursion IsLowerAddress (received_by providers r row_about)
all_received providers r about.Message facts = tt
all_received providers r about.Provider facts = received_lower providers r.by r.facts.recipients facts.recipients
all_received providers r about.Recipient facts = tt

delivered_lower : (providers : List Provider) (r : Receipt) (row_about : About) → ArePrintable r.facts → IsNamed providers r row_about r.recipient
    → IfSome (delivered_to r row_about) IsLowerAddress
delivered_lower providers r about.Message facts named = tt
delivered_lower providers r about.Provider facts named = tt
delivered_lower providers r about.Recipient facts named =
    let one = named_one providers r r.recipient facts.recipients refl named
    in subst (λ (o : Option Bytes). IfSome o IsLowerAddress) (sym one.1.0) one.1.1

reported : HavePlaces → (providers : List Provider) (r : Receipt) (said : Said) → CanBeGiven providers r → ArePrintable r.facts
    → (row_of r.kind).said ≡ Some said → CanBeReported (report_of providers r (row_of r.kind) said)
unfolding report_of
reported places providers r said given facts says = record {
  delivered = delivered_lower providers r (row_of r.kind).about facts given.named;
  received = all_received providers r (row_of r.kind).about facts;
  detail = words_of places r.kind (row_of r.kind) said refl says;
}

-- ---- what is given is a receipt

-- what the laws of the crates below say
pub record TextLaws : Type 0 where
  pub places : HavePlaces
  pub letters : (seals : Seals) (provider : ℕ) (heading : Heading) (parts : List Bytes) (text : Bytes)
      → (letter_text seals provider heading parts ≡ Some text) ↔ IsLetterText seals provider heading parts text
  pub certificates : (cert : CertData) → CanBeWritten cert → IsStamp cert.stamp → IsCert cert (cert_text cert)
  pub clock : (issuer : Kept) (moment : ℕ) → moment < END_OF_TIME → IsStamp (stamp_of issuer.zone moment)
  pub written : (providers : List Provider) (issuer : Kept) (r : Receipt) (said : Said) → IsLawful providers → CanBeGiven providers r
      → ArePrintable r.facts → slice_get providers r.by ≡ Some issuer.provider
      → CanBeReported (report_of providers r (row_of r.kind) said)
      → CanBeWritten (receipt_certificate providers issuer.provider.name r (stamp_of issuer.zone r.moment) (row_of r.kind) said)

then_some : {A B : Type 0} (o : Option A) (f : A → Option B) (y : B) → (o >>= f) ≡ Some y → (x : A) × ((o ≡ Some x) × (f x ≡ Some y))
then_some None f y e = absurd cc
then_some (Some x) f y e = (x, (refl, e))

-- the provider that is kept at a number is the directory's
provider_at : (kept : List Kept) (n : ℕ) (issuer : Kept) → slice_get kept n ≡ Some issuer → slice_get (providers_of kept) n ≡ Some issuer.provider
provider_at kept n issuer e = slice_get-map (λ (one : Kept). one.provider) kept n ∙ ap (option_map (λ (one : Kept). one.provider)) e

is_by : TextLaws → (seals : Seals) (kept : List Kept) (r : Receipt) (original text : Bytes) (found : Option Said) → (row_of r.kind).said ≡ found
    → IsLawful (providers_of kept) → CanBeGiven (providers_of kept) r → ArePrintable r.facts → r.moment < END_OF_TIME
    → (slice_get kept r.by >>= text_by seals (providers_of kept) r original (row_of r.kind) found) ≡ Some text
    → IsReceiptBy seals kept r original (row_of r.kind) found text
unfolding certificate_of
is_by laws seals kept r original text None says lawful given facts before e =
    let by = then_some (slice_get kept r.by) (text_by seals (providers_of kept) r original (row_of r.kind) None) text e
    in record { issuer = by.0; issuer_is = by.1.0; text_is = by.1.1 }
is_by laws seals kept r original text (Some said) says lawful given facts before e =
    let providers = providers_of kept
    in let row = row_of r.kind
    in let by = then_some (slice_get kept r.by) (text_by seals providers r original row (Some said)) text e
    in let issuer = by.0
    in let stamp = stamp_of issuer.zone r.moment
    in let cert = receipt_certificate providers issuer.provider.name r stamp row said
    in record {
      issuer = issuer;
      issuer_is = by.1.0;
      composed = record {
        certificate = cert_text cert;
        certificate_is =
            laws.certificates cert
            (laws.written providers issuer r said lawful given facts (provider_at kept r.by issuer by.1.0) (reported laws.places providers r said given facts says))
            (laws.clock issuer r.moment before);
        text_is = (laws.letters seals r.by (receipt_heading providers r stamp row said) (receipt_parts providers r original row (Some said) issuer) text).0 by.1.1;
      };
    }

-- What the function gives is the receipt, where a provider may give it.
pub receipt_is : TextLaws → (seals : Seals) (kept : List Kept) (r : Receipt) (original text : Bytes)
    → IsLawful (providers_of kept) → CanBeGiven (providers_of kept) r → ArePrintable r.facts → r.moment < END_OF_TIME
    → receipt_text seals kept r original ≡ Some text → IsReceipt seals kept r original text
unfolding receipt_text
receipt_is laws seals kept r original text lawful given facts before e =
    is_by laws seals kept r original text (row_of r.kind).said refl lawful given facts before e

-- ---- there is one

there_by : (seals : Seals) (kept : List Kept) (r : Receipt) (original : Bytes) (row : Row) (found : Option Said) (issuer : Kept)
    → slice_get kept r.by ≡ Some issuer → (name : Bytes) → seals.name_of r.by ≡ Some name
    → (n : ℕ) → composed_number (receipt_parts (providers_of kept) r original row found issuer) ≡ Some n
    → (text : Bytes) × ((slice_get kept r.by >>= text_by seals (providers_of kept) r original row found) ≡ Some text)
unfolding letter_text composed_body
there_by seals kept r original row None issuer is name named n composed =
    let providers = providers_of kept
    in let bytes = with_head (heading_fields (ack_heading providers r (stamp_of issuer.zone r.moment) row)) ack_body
    in let text = λ (called : Bytes). line_text (record { name = called; tag = seals.tag_of r.by bytes; bytes = bytes })
    in (text name, ap (option_and_then (text_by seals providers r original row None)) is ∙ ap (option_map text) named)
there_by seals kept r original row (Some said) issuer is name named n composed =
    let providers = providers_of kept
    in let parts = receipt_parts providers r original row (Some said) issuer
    in let heading = receipt_heading providers r (stamp_of issuer.zone r.moment) row said
    in let body = joined_parts (boundary_number n) parts
    in let bytes = with_head (letter_fields heading n) body
    in let text = λ (called : Bytes). line_text (record { name = called; tag = seals.tag_of r.by bytes; bytes = bytes })
    in (
      text name,
      ap (option_and_then (text_by seals providers r original row (Some said))) is
          ∙ ap (λ (o : Option ℕ). option_and_then (λ (k : ℕ). option_and_then (λ (b : Bytes). sealed seals r.by (with_head (letter_fields heading k) b)) (option_map (λ (j : ℕ). joined_parts (boundary_number j) parts) o)) o) composed
          ∙ ap (option_map text) named,
    )

-- There is a receipt where its parts leave a boundary free.
pub receipt_there : (seals : Seals) (kept : List Kept) (r : Receipt) (original : Bytes) (issuer : Kept) → slice_get kept r.by ≡ Some issuer
    → (name : Bytes) → seals.name_of r.by ≡ Some name
    → (n : ℕ) → composed_number (receipt_parts (providers_of kept) r original (row_of r.kind) (row_of r.kind).said issuer) ≡ Some n
    → (text : Bytes) × (receipt_text seals kept r original ≡ Some text)
unfolding receipt_text
receipt_there seals kept r original issuer is name named n composed =
    there_by seals kept r original (row_of r.kind) (row_of r.kind).said issuer is name named n composed

pub some_is : {X : Type 0} (o : Option X) → IsSome o → (x : X) × (o ≡ Some x)
some_is None h = absurd cc
some_is (Some x) h = (x, refl)
