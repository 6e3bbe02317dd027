-- What a receipt is composed of is what its text says.
use Rattle.std.proofs.Common.{◌≡◌, List, Option, Some, None, sym, ap, subst, refl, ◌∙◌}
use Rattle.std.specs.Option.{IfSome}
use Rattle.std.specs.Prelude.{position}
use Rattle.pec_types.specs.Bytes.{Bytes}
use Rattle.pec_types.specs.Text.{AllPrintable, is_unprintable}
use Rattle.pec_types.specs.Words.{cause_word}
use Rattle.pec_types.specs.declared.messages.Cause.{Cause}
use Rattle.pec_types.specs.declared.messages.Refusal.TheVariants as refusals
use Rattle.pec_types.specs.declared.receipts.Kind.{Kind}
use Rattle.pec_types.specs.declared.receipts.Kind.TheVariants as kinds
use Rattle.pec_cert.specs.Stamp.{Instant}
use Rattle.pec_directory.specs.Directory.{Kept, Provider}
use Rattle.pec_seal.specs.Seals.{Seals}
use Rattle.pec_letter_parts.specs.Contents.{Contents}
use Rattle.pec_receipts.proofs.CauseLemmas.{HavePlaces, each_cause}
use Rattle.pec_receipts.specs.Kinds.{Row, Said, row_of}
use Rattle.pec_receipts.specs.Receipts.{IsAcknowledging, IsCertifying, IsCertifyingBy, IsReceiptBy}
use Rattle.pec_receipts.specs.declared.receipts.Receipt.{Receipt}

-- the words on the error of a row are printable
abbrev pub HasWords : Option Said → Type 0
HasWords None = Unit {0}
HasWords (Some said) = IfSome said.detail AllPrintable

row_words : HavePlaces → (kind : Kind) → HasWords (row_of kind).said
unfolding row_of
row_words places kinds.Acceptance = tt
row_words places (kinds.NonAcceptance cause) =
    each_cause places (λ (one : Cause). position is_unprintable (cause_word one)) (λ (one : Cause). None) refl cause
row_words places kinds.Charge = tt
row_words places kinds.Delivery = tt
row_words places (kinds.DeliveryError refusals.NoMailbox) = refl
row_words places (kinds.DeliveryError refusals.MailboxFull) = refl
row_words places (kinds.DeliveryError refusals.Virus) = refl
row_words places kinds.VirusFound = refl
row_words places kinds.Warning = refl
row_words places kinds.Notice = refl
row_words places kinds.LateNotice = refl
row_words places kinds.Ack = tt

pub words_of : HavePlaces → (kind : Kind) (row : Row) (said : Said) → row ≡ row_of kind → row.said ≡ Some said → IfSome said.detail AllPrintable
words_of places kind row said e f = subst HasWords (sym (ap (λ (w : Row). w.said) e) ∙ f) (row_words places kind)

-- by the row, and by the row of the kind
pub certified_by_row : (seals : Seals) (kept : List Kept) (r : Receipt) (original : Bytes) (row other : Row) (said : Said) (text : Bytes)
    → row ≡ other → row.said ≡ Some said → IsCertifying seals kept r original row said text
    → IsReceiptBy seals kept r original other other.said text
certified_by_row seals kept r original row other said text e f is =
    let here : IsReceiptBy seals kept r original row row.said text =
    subst (λ s. IsReceiptBy seals kept r original row s text) (sym f) is
    in subst (λ (w : Row). IsReceiptBy seals kept r original w w.said text) e here

pub acknowledged_by_row : (seals : Seals) (kept : List Kept) (r : Receipt) (original : Bytes) (row other : Row) (text : Bytes)
    → row ≡ other → row.said ≡ None → IsAcknowledging seals kept r row text
    → IsReceiptBy seals kept r original other other.said text
acknowledged_by_row seals kept r original row other text e f is =
    let here : IsReceiptBy seals kept r original row row.said text =
    subst (λ s. IsReceiptBy seals kept r original row s text) (sym f) is
    in subst (λ (w : Row). IsReceiptBy seals kept r original w w.said text) e here

-- by another name of the issuer, and another stamp, that are the same
pub certified_by_same : (seals : Seals) (providers : List Provider) (issuer name : Bytes) (stamp other : Instant) (r : Receipt) (original : Bytes) (row : Row) (said : Said) (text : Bytes)
    → issuer ≡ name → stamp ≡ other → IsCertifyingBy seals providers issuer stamp r original row said text
    → IsCertifyingBy seals providers name other r original row said text
certified_by_same seals providers issuer name stamp other r original row said text e f is =
    subst (λ s. IsCertifyingBy seals providers name s r original row said text) f
    (subst (λ n. IsCertifyingBy seals providers n stamp r original row said text) e is)

abbrev pub the_contents : Bytes → Option Bytes → Option Bytes → Contents
the_contents text message certificate = record { text = text; message = message; certificate = certificate }

-- the same contents
pub same_contents : (text other : Bytes) (message shown : Option Bytes) (certificate certified : Option Bytes) → text ≡ other → message ≡ shown
    → certificate ≡ certified → the_contents text message certificate ≡ the_contents other shown certified
same_contents text other message shown certificate certified e f g = cc
