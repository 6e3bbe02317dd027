-- What is a receipt is one text, the one that the function gives.
use Rattle.std.proofs.Common.{◌≡◌, ◌↔◌, ℕ, List, Option, Some, None, slice_get, sym, ap, ◌∙◌}
use Rattle.std.proofs.lemmas.Option.{same_Some}
use Rattle.pec_types.specs.Bytes.{Bytes}
use Rattle.pec_types.specs.Options.{◌>>=◌}
use Rattle.pec_cert.specs.Certificate.{IsCert}
use Rattle.pec_cert.specs.CertificateReading.{cert_text}
use Rattle.pec_cert.specs.Zone.{stamp_of}
use Rattle.pec_cert.specs.declared.certificates.CertData.{CertData}
use Rattle.pec_directory.specs.Directory.{Kept, providers_of}
use Rattle.pec_seal.specs.Seals.{Seals}
use Rattle.pec_letter_parts.specs.Contents.{parts_of}
use Rattle.pec_letter_parts.specs.Headings.{Heading}
use Rattle.pec_letter_parts.specs.Sealing.{IsLetterText, letter_text}
use Rattle.pec_receipts.specs.Kinds.{Row, Said, row_of}
use Rattle.pec_receipts.specs.Receipts.{IsReceipt, IsReceiptBy, receipt_certificate, receipt_contents, receipt_heading, receipt_text, text_by}
use Rattle.pec_receipts.specs.declared.receipts.Receipt.{Receipt}

-- what the laws of letters and of certificates say
pub record OneText : Type 0 where
  pub letters : (seals : Seals) (provider : ℕ) (heading : Heading) (parts : List Bytes) (text : Bytes)
      → (letter_text seals provider heading parts ≡ Some text) ↔ IsLetterText seals provider heading parts text
  pub certificates : (cert : CertData) (text : Bytes) → IsCert cert text → text ≡ cert_text cert

given_by : OneText → (seals : Seals) (kept : List Kept) (r : Receipt) (original : Bytes) (row : Row) (said : Option Said) (text : Bytes)
    → IsReceiptBy seals kept r original row said text
    → (slice_get kept r.by >>= text_by seals (providers_of kept) r original row said) ≡ Some text
given_by laws seals kept r original row None text is =
    ap (λ issuer. issuer >>= text_by seals (providers_of kept) r original row None) is.issuer_is ∙ is.text_is
given_by laws seals kept r original row (Some said) text is =
    let providers = providers_of kept
    in let stamp = stamp_of is.issuer.zone r.moment
    in let made = is.composed
    in let cert = receipt_certificate providers is.issuer.provider.name r stamp row said
    in let heading = receipt_heading providers r stamp row said
    in let parts : Bytes → List Bytes =
    λ certificate. parts_of (receipt_contents providers is.issuer.provider.name r stamp row said original certificate)
    in ap (λ issuer. issuer >>= text_by seals providers r original row (Some said)) is.issuer_is
    ∙ ap (λ certificate. letter_text seals r.by heading (parts certificate)) (sym (laws.certificates cert made.certificate made.certificate_is))
    ∙ (laws.letters seals r.by heading (parts made.certificate) text).1 made.text_is

-- the receipt is the function's
pub receipt_is_given : OneText → (seals : Seals) (kept : List Kept) (r : Receipt) (original text : Bytes)
    → IsReceipt seals kept r original text → receipt_text seals kept r original ≡ Some text
unfolding receipt_text
receipt_is_given laws seals kept r original text is = given_by laws seals kept r original (row_of r.kind) (row_of r.kind).said text is

-- it is one text
pub receipt_is_one : OneText → (seals : Seals) (kept : List Kept) (r : Receipt) (original text other : Bytes)
    → IsReceipt seals kept r original text → IsReceipt seals kept r original other → text ≡ other
receipt_is_one laws seals kept r original text other is also =
    same_Some text other (sym (receipt_is_given laws seals kept r original text is) ∙ receipt_is_given laws seals kept r original other also)
