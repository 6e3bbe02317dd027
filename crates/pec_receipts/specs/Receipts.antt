-- Receipts, notices and acknowledgements (RFC 6109, sections 3.1 to 3.3, for what they are for; fields, words and order are this
-- project's profile): which text one is. The headlines are `IsReceipt` and, the same as a function, `receipt_text`.
use Rattle.std.specs.Prelude.{◌≡◌, ◌≤◌, ◌<◌, ℕ, List, [], ◌∷◌, ◌++◌, Bool, true, false, if◌then◌else◌, length, Option, Some, None, codes, slice_get, position}
use Rattle.std.specs.Fmt.{decimal}
use Rattle.std.specs.List.{concat, flat_map}
use Rattle.std.specs.Option.{IfSome, option_map}
use Rattle.std.specs.Str.{bytes_eq}
use Rattle.pec_types.specs.Bytes.{Bytes, Path}
use Rattle.pec_types.specs.Message.{Id}
use Rattle.pec_types.specs.Options.{◌>>=◌}
use Rattle.pec_types.specs.Words.{seven_digits}
use Rattle.pec_types.specs.declared.messages.Class.{Class}
use Rattle.pec_types.specs.declared.messages.Class.TheVariants.{Primary, Copy}
use Rattle.pec_types.specs.declared.messages.Recipient.{Recipient}
use Rattle.pec_types.specs.declared.messages.Wish.{Wish}
use Rattle.pec_types.specs.declared.messages.Wish.TheVariants.{Full, Brief, Concise}
use Rattle.pec_heads.specs.WrittenHeads.{with_head}
use Rattle.pec_cert.specs.Certificate.{IsCert}
use Rattle.pec_cert.specs.CertificateReading.{cert_text}
use Rattle.pec_cert.specs.Stamp.{Instant}
use Rattle.pec_cert.specs.Zone.{stamp_of}
use Rattle.pec_cert.specs.declared.certificates.CertData.{CertData}
use Rattle.pec_directory.specs.Directory.{Kept, Provider, first_domain, home_of, is_certified, is_number, providers_of}
use Rattle.pec_directory.specs.Fields.{service_at}
use Rattle.pec_seal.specs.Seals.{Seals, sealed}
use Rattle.pec_brief.specs.BriefReading.{brief_of}
use Rattle.pec_letter_parts.specs.Contents.{Contents, parts_of}
use Rattle.pec_letter_parts.specs.Headings.{Heading, angled, heading_fields}
use Rattle.pec_letter_parts.specs.Sealing.{IsLetterText, letter_text}
use Rattle.pec_letter_parts.specs.declared.headings.Marking.{Marking}
use Rattle.pec_letter_parts.specs.declared.headings.Marking.TheVariants.{Receipt as Receipted, Reply}
use Rattle.pec_letter_facts.specs.Certifying.{certificate_of, name_of, told_text, with_subject}
use Rattle.pec_letter_facts.specs.declared.certifying.Report.{Report}
use Rattle.pec_receipts.specs.Kinds.{Row, Said, row_of}
use Rattle.pec_receipts.specs.declared.kinds.About.{About}
use Rattle.pec_receipts.specs.declared.kinds.About.TheVariants as about
use Rattle.pec_receipts.specs.declared.kinds.Addressee.{Addressee}
use Rattle.pec_receipts.specs.declared.kinds.Addressee.TheVariants as to
use Rattle.pec_receipts.specs.declared.receipts.Receipt.{Receipt}

-- ---- the recipient

abbrev pub has_address : Bytes → Recipient → Bool
has_address address recipient = bytes_eq recipient.address address

-- the place of an address among the recipients, from 0
unfoldable pub place_among : List Recipient → Bytes → Option ℕ
place_among recipients address = position (has_address address) recipients

-- the place of the recipient that a receipt names
abbrev pub place_of : Receipt → Option ℕ
place_of r = r.recipient >>= place_among r.facts.recipients

-- the recipient's address, where one is named
abbrev pub or_nothing : Option Bytes → Bytes
or_nothing None = []
or_nothing (Some address) = address

-- ---- the head

abbrev pub place_text : Option ℕ → Bytes
place_text None = []
place_text (Some place) = codes "." ++ decimal place

-- The name of a receipt, `TAG.P.NNNNNNN.K@DOMAIN`: the tag of its kind, provider and number of the message, the recipient's place where
-- one is named, and the first domain of the provider that composes it.
unfoldable pub receipt_name : Bytes → Id → Option ℕ → Bytes → Bytes
receipt_name tag id place domain =
    concat (tag ∷ codes "." ∷ decimal id.provider ∷ codes "." ∷ seven_digits id.number ∷ place_text place ∷ codes "@" ∷ domain ∷ [])

-- the address for receipts of the provider of a number
unfoldable pub receipts_at : List Provider → ℕ → Option Bytes
receipts_at providers number = option_map (λ (provider : Provider). provider.receipts) (slice_get providers number)

-- who gets the receipt
unfoldable pub addressee_of : List Provider → Receipt → Addressee → Option Bytes
addressee_of providers r to.Sender = Some r.facts.sender
addressee_of providers r to.MessageProvider = receipts_at providers r.id.provider
addressee_of providers r to.RecipientProvider = r.recipient >>= home_of providers >>= receipts_at providers

-- the field of addresses lists the one that is there
abbrev pub alone : Option Bytes → Path
alone None = []
alone (Some address) = address ∷ []

-- The head of a receipt: what it is, by these words, whether a virus was found, what was wished, and what all receipts have.
abbrev pub heading_by : List Provider → Receipt → Instant → Row → Marking → Bytes → Bool → Option Wish → Heading
heading_by providers r stamp row marking word flagged wish = record {
  marking = marking;
  kind = word;
  virus = flagged;
  wish = wish;
  name = receipt_name row.tag r.id (place_of r) (first_domain providers r.by);
  reference = Some (angled (name_of providers r.id));
  stamp = stamp;
  from = service_at (first_domain providers r.by);
  reply = None;
  to = alone (addressee_of providers r row.to);
  copies = [];
  subject = with_subject row.prefix r.facts.subject;
}

-- What is made for a head: the name of the receipt and that of the message, who writes, and the subject.
pub record AreNames (providers : List Provider) (r : Receipt) (row : Row) (name reference from subject : Bytes) : Type 0 where
  pub name_is : name ≡ receipt_name row.tag r.id (place_of r) (first_domain providers r.by)
  pub reference_is : reference ≡ angled (name_of providers r.id)
  pub from_is : from ≡ service_at (first_domain providers r.by)
  pub subject_is : subject ≡ with_subject row.prefix r.facts.subject

-- what the head says of the wish: a delivery receipt's alone does
abbrev pub marked_wish : Receipt → Said → Option Wish
marked_wish r said = if said.delivers then Some r.facts.wish else None

-- The head of a receipt that certifies something.
unfoldable pub receipt_heading : List Provider → Receipt → Instant → Row → Said → Heading
receipt_heading providers r stamp row said =
    heading_by providers r stamp row Receipted said.word said.flagged (marked_wish r said)

-- the value that says what an acknowledgement is: the message's name and the recipient
unfoldable pub ack_value : List Provider → Receipt → Bytes
ack_value providers r = concat (name_of providers r.id ∷ codes " " ∷ or_nothing r.recipient ∷ [])

-- The head of an acknowledgement.
unfoldable pub ack_heading : List Provider → Receipt → Instant → Row → Heading
ack_heading providers r stamp row = heading_by providers r stamp row Reply (ack_value providers r) false None

-- the body of an acknowledgement
abbrev pub ack_body : Bytes
ack_body = codes "ricevuto\r\n"

-- ---- the parts

-- whom the phrase for people names
abbrev pub named_by : Bytes → Receipt → About → Bytes
named_by issuer r about.Message = []
named_by issuer r about.Provider = issuer
named_by issuer r about.Recipient = or_nothing r.recipient

-- what is added to the phrase: the error in words
abbrev pub explained : Bool → Option Bytes → Bytes
explained false detail = []
explained true None = []
explained true (Some detail) = codes ": " ++ detail

-- The phrase for people.
unfoldable pub phrase_of : Bytes → Receipt → Row → Said → Bytes
phrase_of issuer r row said =
    concat (said.phrase ∷ named_by issuer r row.about ∷ said.behind ∷ explained said.explains said.detail ∷ codes "." ∷ [])

-- the class of the recipient that a receipt names
abbrev pub class_of : Receipt → Option Class
class_of r = place_of r >>= λ place. option_map (λ (one : Recipient). one.class) (slice_get r.facts.recipients place)

-- what a receipt shows of the message, by what was wished and the recipient's class: the whole message goes back for a primary
-- recipient alone
abbrev pub shown_message : Wish → Option Class → Bytes → Option Bytes
shown_message Full None original = None
shown_message Full (Some Primary) original = Some original
shown_message Full (Some Copy) original = None
shown_message Brief class original = Some (brief_of original)
shown_message Concise class original = None

-- The message in a receipt, where it has one.
unfoldable pub message_in : Receipt → Said → Bytes → Option Bytes
message_in r said original = if said.delivers then shown_message r.facts.wish (class_of r) original else None

-- the recipient's address, where it is at home at a provider
abbrev pub address_at : List Provider → ℕ → Recipient → List Bytes
address_at providers number recipient =
    if is_number number (home_of providers recipient.address) then recipient.address ∷ [] else []

-- the addresses of the recipients that are at home at a provider
unfoldable pub addresses_at : List Provider → ℕ → List Recipient → List Bytes
addresses_at providers number recipients = flat_map (address_at providers number) recipients

-- for whom the message was taken in charge, where the receipt says so
abbrev pub received_by : List Provider → Receipt → About → List Bytes
received_by providers r about.Message = []
received_by providers r about.Provider = addresses_at providers r.by r.facts.recipients
received_by providers r about.Recipient = []

-- to whom it was delivered, or wasn't
abbrev pub delivered_to : Receipt → About → Option Bytes
delivered_to r about.Message = None
delivered_to r about.Provider = None
delivered_to r about.Recipient = r.recipient

-- What a receipt reports.
unfoldable pub report_of : List Provider → Receipt → Row → Said → Report
report_of providers r row said = record {
  kind = said.kind;
  error = said.error;
  wish = if said.wish then Some r.facts.wish else None;
  delivered = delivered_to r row.about;
  received = received_by providers r row.about;
  detail = said.detail;
}

-- What a receipt certifies.
abbrev pub receipt_certificate : List Provider → Bytes → Receipt → Instant → Row → Said → CertData
receipt_certificate providers issuer r stamp row said =
    certificate_of providers issuer r.id stamp r.facts (report_of providers r row said)

-- What stands in the parts of a receipt.
abbrev pub receipt_contents : List Provider → Bytes → Receipt → Instant → Row → Said → Bytes → Bytes → Contents
receipt_contents providers issuer r stamp row said original certificate = record {
  text = told_text providers r.id stamp r.facts (phrase_of issuer r row said);
  message = message_in r said original;
  certificate = Some certificate;
}

-- ---- texts

-- The text is the receipt, which certifies something, as a provider of this name composes it on its own clock.
pub record IsCertifyingBy (seals : Seals) (providers : List Provider) (issuer : Bytes) (stamp : Instant) (r : Receipt) (original : Bytes) (row : Row) (said : Said) (text : Bytes) : Type 0 where
  pub certificate : Bytes
  pub certificate_is : IsCert (receipt_certificate providers issuer r stamp row said) certificate
  pub text_is :
      IsLetterText seals r.by (receipt_heading providers r stamp row said)
      (parts_of (receipt_contents providers issuer r stamp row said original certificate)) text

-- The provider that composes it, which seals it, is one of the directory.
pub record IsCertifying (seals : Seals) (kept : List Kept) (r : Receipt) (original : Bytes) (row : Row) (said : Said) (text : Bytes) : Type 0 where
  pub issuer : Kept
  pub issuer_is : slice_get kept r.by ≡ Some issuer
  pub composed :
      IsCertifyingBy seals (providers_of kept) issuer.provider.name (stamp_of issuer.zone r.moment) r original row said text

-- The text is the acknowledgement: a head and one line, sealed by the provider that composes it.
pub record IsAcknowledging (seals : Seals) (kept : List Kept) (r : Receipt) (row : Row) (text : Bytes) : Type 0 where
  pub issuer : Kept
  pub issuer_is : slice_get kept r.by ≡ Some issuer
  pub text_is :
      sealed seals r.by (with_head (heading_fields (ack_heading (providers_of kept) r (stamp_of issuer.zone r.moment) row)) ack_body)
      ≡ Some text

abbrev pub IsReceiptBy : Seals → List Kept → Receipt → Bytes → Row → Option Said → Bytes → Type 0
IsReceiptBy seals kept r original row None text = IsAcknowledging seals kept r row text
IsReceiptBy seals kept r original row (Some said) text = IsCertifying seals kept r original row said text

-- The text is this receipt; the message, as it was handed in, stands in a delivery receipt alone.
abbrev pub IsReceipt : Seals → List Kept → Receipt → Bytes → Bytes → Type 0
IsReceipt seals kept r original text = IsReceiptBy seals kept r original (row_of r.kind) (row_of r.kind).said text

-- ---- the same as a function

-- the parts of a receipt that this provider composes; an acknowledgement has none
abbrev pub receipt_parts : List Provider → Receipt → Bytes → Row → Option Said → Kept → List Bytes
receipt_parts providers r original row None issuer = []
receipt_parts providers r original row (Some said) issuer =
    parts_of (receipt_contents providers issuer.provider.name r (stamp_of issuer.zone r.moment) row said original
    (cert_text (receipt_certificate providers issuer.provider.name r (stamp_of issuer.zone r.moment) row said)))

-- the text of a receipt that this provider composes
abbrev pub text_by : Seals → List Provider → Receipt → Bytes → Row → Option Said → Kept → Option Bytes
text_by seals providers r original row None issuer =
    sealed seals r.by (with_head (heading_fields (ack_heading providers r (stamp_of issuer.zone r.moment) row)) ack_body)
text_by seals providers r original row (Some said) issuer =
    letter_text seals r.by (receipt_heading providers r (stamp_of issuer.zone r.moment) row said)
    (receipt_parts providers r original row (Some said) issuer)

-- The text of the receipt; none where there is no such provider, or no boundary is free.
unfoldable pub receipt_text : Seals → List Kept → Receipt → Bytes → Option Bytes
receipt_text seals kept r original =
    slice_get kept r.by >>= text_by seals (providers_of kept) r original (row_of r.kind) (row_of r.kind).said

-- ---- which receipts can be composed

-- a recipient is named exactly where the kind has one; it is one of the message's, and a certified one
abbrev pub IsNamed : List Provider → Receipt → About → Option Bytes → Type 0
IsNamed providers r about.Message recipient = recipient ≡ None
IsNamed providers r about.Provider recipient = recipient ≡ None
IsNamed providers r about.Recipient None = ⊥
IsNamed providers r about.Recipient (Some address) =
    (is_certified providers address ≡ true) × ((place : ℕ) × (place_among r.facts.recipients address ≡ Some place))

-- A receipt that a provider may give: both providers are there, the message's is the sender's home, the facts have a recipient and no
-- subject that is too long, a recipient is named where the kind has one, and the message's provider composes what no other may.
pub record CanBeGiven (providers : List Provider) (r : Receipt) : Type 0 where
  pub by_is : r.by < length providers
  pub provider_is : r.id.provider < length providers
  pub home : home_of providers r.facts.sender ≡ Some r.id.provider
  pub recipients : 0 < length r.facts.recipients
  pub subject : IfSome r.facts.subject (λ subject. length subject ≤ 900)
  pub named : IsNamed providers r (row_of r.kind).about r.recipient
  pub own : (row_of r.kind).elsewhere ≡ false → r.by ≡ r.id.provider
