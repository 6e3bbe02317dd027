-- The texts of receipts: there is one where the receipt can be given and the facts are short, and it is that receipt.
use Rattle.std.proofs.Common.{◌≡◌, ◌↔◌, ℕ, ◌*◌, ◌<◌, ◌≤◌, ◌^◌, Bool, true, false, cond, List, [], ◌∷◌, ◌++◌, length, map, slice_get, Option, None, Some, option_map, codes, inl, inr, refl, ap, ◌∙◌, arith, length-append}
use Rattle.std.specs.List.{AllByRecursion, flat_map, list_all}
use Rattle.std.specs.Option.{IfSome, is_none, option_and_then}
use Rattle.std.specs.Prelude.{nat_lt, position}
use Rattle.std.proofs.lemmas.Bool.{ltb-true}
use Rattle.std.proofs.lemmas.List.{length-map}
use Rattle.pec_types.specs.Address.{IsLowerAddress}
use Rattle.pec_types.specs.Bytes.{Bytes}
use Rattle.pec_types.specs.Message.{Id}
use Rattle.pec_types.specs.Text.{AllPrintable, is_unprintable}
use Rattle.pec_types.specs.Words.{all_causes, cause_word, refusal_word}
use Rattle.pec_types.specs.declared.messages.Cause.{Cause}
use Rattle.pec_types.specs.declared.messages.Class.{Class}
use Rattle.pec_types.specs.declared.messages.Class.TheVariants as classes
use Rattle.pec_types.specs.declared.messages.Facts.{Facts}
use Rattle.pec_types.specs.declared.messages.Recipient.{Recipient}
use Rattle.pec_types.specs.declared.messages.Refusal.{Refusal}
use Rattle.pec_types.specs.declared.messages.Refusal.TheVariants as refusals
use Rattle.pec_types.specs.declared.messages.Wish.{Wish}
use Rattle.pec_types.specs.declared.messages.Wish.TheVariants as wishes
use Rattle.pec_types.specs.declared.moments.TheConstants.{END_OF_TIME}
use Rattle.pec_types.specs.declared.receipts.Kind.{Kind}
use Rattle.pec_types.specs.declared.receipts.Kind.TheVariants as kinds
use Rattle.pec_heads.specs.BoundedFacts.{AreBounded, IsShortText}
use Rattle.pec_heads.specs.WrittenHeads.{with_head}
use Rattle.pec_bodies.specs.Composing.{boundary_number, bytes_of, composed_body, composed_number, joined_parts}
use Rattle.pec_cert.specs.Certificate.{CanBeWritten, IsCert}
use Rattle.pec_cert.specs.CertificateReading.{cert_text}
use Rattle.pec_cert.specs.Markup.{element}
use Rattle.pec_cert.specs.Stamp.{Instant, IsStamp}
use Rattle.pec_cert.specs.Zone.{stamp_of}
use Rattle.pec_cert.specs.declared.certificates.CertData.{CertData}
use Rattle.pec_cert.specs.declared.certificates.CertRecipient.{CertRecipient}
use Rattle.pec_directory.specs.Directory.{Kept, Provider, home_of, is_number, providers_of}
use Rattle.pec_directory.specs.Lawful.{IsLawful}
use Rattle.pec_seal.specs.Seals.{Seals, line_text, sealed}
use Rattle.pec_brief.specs.BriefForm.{IsBrief}
use Rattle.pec_brief.specs.BriefReading.{brief_of}
use Rattle.pec_letter_parts.specs.Contents.{parts_of}
use Rattle.pec_letter_parts.specs.Headings.{Heading, heading_fields, letter_fields}
use Rattle.pec_letter_parts.specs.Sealing.{IsLetterText, letter_text}
use Rattle.pec_letter_facts.specs.Certifying.{ArePrintable, CanBeReported, certificate_of, name_of, told_text, typed}
use Rattle.pec_letter_facts.specs.declared.certifying.Report.{Report}
use Rattle.pec_receipts.specs.Kinds.{Said, row_of}
use Rattle.pec_receipts.specs.Receipts.{IsReceipt, IsReceiptBy, ack_body, ack_heading, address_at, addresses_at, class_of, delivered_to, explained, message_in, named_by, or_nothing, phrase_of, received_by, receipt_certificate, receipt_contents, receipt_heading, receipt_text, report_of, shown_message, text_by}
use Rattle.pec_receipts.specs.declared.receipts.Receipt.{Receipt}
use Rattle.pec_trade.proofs.DirectoryLemmas.{Issuer}
use Rattle.pec_trade.proofs.PathLemmas.{then_some}
use Rattle.pec_trade.proofs.SizeLemmas.{IsSmall, cert_small, element_small, parts_small, refusal_small, sized, told_small}

-- what the laws of the crates below say
pub record Texts : Type 0 where
  pub causes : (test : Cause → Bool) → list_all test all_causes ≡ true → (cause : Cause) → test cause ≡ true
  pub letters : (seals : Seals) (provider : ℕ) (heading : Heading) (parts : List Bytes) (text : Bytes)
      → (letter_text seals provider heading parts ≡ Some text) ↔ IsLetterText seals provider heading parts text
  pub bodies : (parts : List Bytes) → bytes_of parts < 2 ^ 64 → (n : ℕ) × ((composed_number parts ≡ Some n) × (n ≤ bytes_of parts))
  pub certificates : (cert : CertData) → CanBeWritten cert → IsStamp cert.stamp → IsCert cert (cert_text cert)
  pub written : (providers : List Provider) (issuer : Bytes) (id : Id) (stamp : Instant) (facts : Facts) (report : Report)
      → IsLawful providers → id.provider < length providers → AllPrintable issuer → ArePrintable facts → 0 < length facts.recipients
      → CanBeReported report → CanBeWritten (certificate_of providers issuer id stamp facts report)
  pub issuer : (providers : List Provider) (number : ℕ) (provider : Provider) → IsLawful providers → slice_get providers number ≡ Some provider
      → AllPrintable provider.name
  pub clock : (kept : Kept) (moment : ℕ) → moment < END_OF_TIME → IsStamp (stamp_of kept.zone moment)
  pub address : (address : Bytes) → IsLowerAddress address → AllPrintable address × (length address ≤ 254)
  pub named : (providers : List Provider) (id : Id) → IsLawful providers → id.provider < length providers → length (name_of providers id) ≤ 248
  pub brief : (original brief : Bytes) → (brief_of original ≡ brief) ↔ IsBrief original brief

-- ---- letters

-- There is a letter of parts that aren't too long.
pub letter_there : Texts → (seals : Seals) (provider : ℕ) (heading : Heading) (parts : List Bytes) (name : Bytes) → seals.name_of provider ≡ Some name
    → bytes_of parts < 2 ^ 64 → (text : Bytes) × (letter_text seals provider heading parts ≡ Some text)
unfolding letter_text composed_body
letter_there texts seals provider heading parts name named small =
    let found = texts.bodies parts small
    in let n = found.0
    in let bytes = with_head (letter_fields heading n) (joined_parts (boundary_number n) parts)
    in let text = λ (called : Bytes). line_text (record { name = called; tag = seals.tag_of provider bytes; bytes = bytes })
    in (
      text name,
      ap (λ (o : Option ℕ). option_and_then (λ (k : ℕ). option_and_then (λ (b : Bytes). sealed seals provider (with_head (letter_fields heading k) b)) (option_map (λ (j : ℕ). joined_parts (boundary_number j) parts) o)) o) found.1.0
          ∙ ap (option_map text) named,
    )

-- ---- rows

-- what a row says is printable and short
pub record Right (said : Said) : Type 0 where
  pub word : length said.word ≤ 100
  pub phrase : length said.phrase ≤ 200
  pub behind : length said.behind ≤ 200
  pub printable : IfSome said.detail AllPrintable
  pub detail : IfSome said.detail (λ text. length text ≤ 1000)

abbrev pub IsRight : Option Said → Type 0
IsRight None = Unit {0}
IsRight (Some said) = Right said

none_there : (found : Option ℕ) → is_none found ≡ true → found ≡ None
none_there None e = refl
none_there (Some place) e = absurd cc

cause_shows : Texts → (cause : Cause) → AllPrintable (cause_word cause)
cause_shows texts cause =
    none_there (position is_unprintable (cause_word cause))
    (texts.causes (λ (one : Cause). is_none (position is_unprintable (cause_word one))) refl cause)

cause_small : Texts → (cause : Cause) → length (cause_word cause) < 21
cause_small texts cause =
    ltb-true (length (cause_word cause)) 21 (texts.causes (λ (one : Cause). nat_lt (length (cause_word one)) 21) refl cause)

refusal_shows : (refusal : Refusal) → AllPrintable (refusal_word refusal)
refusal_shows refusals.NoMailbox = refl
refusal_shows refusals.MailboxFull = refl
refusal_shows refusals.Virus = refl

pub row_right : Texts → (kind : Kind) → IsRight (row_of kind).said
unfolding row_of
row_right texts kinds.Acceptance = record { word = omega arith; phrase = omega arith; behind = omega arith; printable = tt; detail = tt }
row_right texts (kinds.NonAcceptance cause) =
    record { word = omega arith; phrase = omega arith; behind = omega arith; printable = cause_shows texts cause; detail = omega (arith, cause_small texts cause) }
row_right texts kinds.Charge = record { word = omega arith; phrase = omega arith; behind = omega arith; printable = tt; detail = tt }
row_right texts kinds.Delivery = record { word = omega arith; phrase = omega arith; behind = omega arith; printable = tt; detail = tt }
row_right texts (kinds.DeliveryError refusal) =
    record { word = omega arith; phrase = omega arith; behind = omega arith; printable = refusal_shows refusal; detail = omega (arith, refusal_small refusal) }
row_right texts kinds.VirusFound = record { word = omega arith; phrase = omega arith; behind = omega arith; printable = refl; detail = omega arith }
row_right texts kinds.Warning = record { word = omega arith; phrase = omega arith; behind = omega arith; printable = refl; detail = omega arith }
row_right texts kinds.Notice = record { word = omega arith; phrase = omega arith; behind = omega arith; printable = refl; detail = omega arith }
row_right texts kinds.LateNotice = record { word = omega arith; phrase = omega arith; behind = omega arith; printable = refl; detail = omega arith }
row_right texts kinds.Ack = tt

-- ---- recipients

lower_at : (providers : List Provider) (n : ℕ) (all : List Recipient) → AllByRecursion (λ (r : Recipient). IsLowerAddress r.address) all
    → AllByRecursion IsLowerAddress (addresses_at providers n all)
unfolding addresses_at
lower_at providers n [] lower = tt
lower_at providers n (r ∷ all) lower = kept (is_number n (home_of providers r.address)) (lower_at providers n all lower.1)
  where
    kept : (t : Bool) → AllByRecursion IsLowerAddress (flat_map (address_at providers n) all)
        → AllByRecursion IsLowerAddress (cond t (r.address ∷ []) [] ++ flat_map (address_at providers n) all)
    kept true rest = (lower.0, rest)
    kept false rest = rest

abbrev AreShort : List Recipient → Type 0
AreShort all = AllByRecursion (λ (r : Recipient). length r.address ≤ 254) all

abbrev received_line : Bytes → Bytes
received_line = element (codes "ricezione")

received_small : (providers : List Provider) (n : ℕ) (all : List Recipient) → AreShort all
    → length (flat_map received_line (addresses_at providers n all)) ≤ 2000 * length all
unfolding addresses_at
received_small providers n [] short = omega arith
received_small providers n (r ∷ all) short = kept (is_number n (home_of providers r.address)) (received_small providers n all short.1)
  where
    kept : (t : Bool) → length (flat_map received_line (flat_map (address_at providers n) all)) ≤ 2000 * length all
        → length (flat_map received_line (cond t (r.address ∷ []) [] ++ flat_map (address_at providers n) all)) ≤ 2000 * length (r ∷ all)
    kept true small =
        omega (
          arith,
          length-append (received_line r.address) (flat_map received_line (flat_map (address_at providers n) all)),
          element_small (codes "ricezione") r.address 254 (omega arith) short.0,
          small,
        )
    kept false small = omega (arith, small)

typed_short : (providers : List Provider) (all : List Recipient) → AreShort all → AllByRecursion (λ (r : CertRecipient). length r.address ≤ 254) (map (typed providers) all)
typed_short providers [] short = tt
typed_short providers (r ∷ all) short = (short.0, typed_short providers all short.1)

-- ---- facts

-- facts that can be certified, with short texts and at most 1,000 recipients
pub record AreSmall (facts : Facts) : Type 0 where
  pub printable : ArePrintable facts
  pub some : 0 < length facts.recipients
  pub few : length facts.recipients ≤ 1000
  pub reply : length facts.reply ≤ 900
  pub subject : IfSome facts.subject (λ text. length text ≤ 900)
  pub reference : IfSome facts.reference (λ text. length text ≤ 900)

text_small : (text : Option Bytes) → IfSome text IsShortText → IfSome text (λ t. length t ≤ 900)
text_small None short = tt
text_small (Some text) short = short.short

pub bounded_small : ((facts : Facts) → AreBounded facts → ArePrintable facts) → (facts : Facts) → AreBounded facts → 0 < length facts.recipients → length facts.recipients ≤ 1000
    → AreSmall facts
bounded_small printable facts bounded some few = record {
  printable = printable facts bounded;
  some = some;
  few = few;
  reply = bounded.reply.short;
  subject = text_small facts.subject bounded.subject;
  reference = text_small facts.reference bounded.reference;
}

pub longer : (text : Option Bytes) → IfSome text (λ t. length t ≤ 900) → IfSome text (λ t. length t ≤ 1000)
longer None short = tt
longer (Some text) short = omega (arith, short)

longer_message : (message : Option Bytes) → IfSome message (λ m. length m ≤ 41943040) → IfSome message (λ m. length m ≤ 67108864)
longer_message None short = tt
longer_message (Some message) short = omega (arith, short)

-- what a receipt shows of the message isn't too long
abbrev pub MessageFits : Receipt → Said → Bytes → Type 0
MessageFits r said original = IfSome (message_in r said original) (λ m. length m ≤ 67108864)

module _ (texts : Texts) where
  pub all_short : (all : List Recipient) → AllByRecursion (λ (r : Recipient). IsLowerAddress r.address) all → AreShort all
  all_short [] lower = tt
  all_short (r ∷ all) lower = ((texts.address r.address lower.0).1, all_short all lower.1)

  lower_short : (text : Option Bytes) → IfSome text IsLowerAddress → IfSome text (λ t. length t ≤ 1000)
  lower_short None lower = tt
  lower_short (Some address) lower = omega (arith, (texts.address address lower).1)

  -- what a certificate of short facts has is short, whatever is reported in short
  pub certificate_small : (providers : List Provider) (issuer : Bytes) (id : Id) (stamp : Instant) (facts : Facts) (report : Report)
      → IsLawful providers → id.provider < length providers → length issuer ≤ 32 → AreSmall facts
      → IfSome report.delivered (λ text. length text ≤ 1000) → length (flat_map received_line report.received) ≤ 2000 * 1000
      → IfSome report.detail (λ text. length text ≤ 1000) → length (cert_text (certificate_of providers issuer id stamp facts report)) ≤ 4060000
  unfolding certificate_of
  certificate_small providers issuer id stamp facts report lawful within short small delivered received detail =
      let small_one : IsSmall (certificate_of providers issuer id stamp facts report) 1000 = record {
        sender = omega (arith, (texts.address facts.sender small.printable.sender).1);
        recipients = typed_short providers facts.recipients (all_short facts.recipients small.printable.recipients);
        few = omega (arith, small.few, length-map facts.recipients (typed providers));
        reply = omega (arith, small.reply);
        subject = longer facts.subject small.subject;
        provider = omega (arith, short);
        id = omega (arith, texts.named providers id lawful within);
        reference = longer facts.reference small.reference;
        delivered = delivered;
        received = received;
        detail = detail;
      }
      in omega (arith, cert_small (certificate_of providers issuer id stamp facts report) 1000 small_one)

  pub text_of_people : (providers : List Provider) (id : Id) (stamp : Instant) (facts : Facts) (phrase : Bytes) → IsLawful providers → id.provider < length providers
      → AreSmall facts → length phrase ≤ 2000 → length (told_text providers id stamp facts phrase) ≤ 6000
  text_of_people providers id stamp facts phrase lawful within small short =
      told_small providers id stamp facts phrase (omega (arith, (texts.address facts.sender small.printable.sender).1)) (longer facts.subject small.subject)
      (omega (arith, texts.named providers id lawful within)) short

  -- ---- receipts

  -- what is said of a receipt that is to be composed
  pub record Stands (kept : List Kept) (r : Receipt) : Type 0 where
    pub lawful : IsLawful (providers_of kept)
    pub within : r.id.provider < length (providers_of kept)
    pub printable : ArePrintable r.facts
    pub some : 0 < length r.facts.recipients
    pub named : IfSome r.recipient IsLowerAddress
    pub before : r.moment < END_OF_TIME

  delivered_lower : (r : Receipt) (kind : Kind) → IfSome r.recipient IsLowerAddress → IfSome (delivered_to r (row_of kind).about) IsLowerAddress
  unfolding row_of
  delivered_lower r kinds.Acceptance lower = tt
  delivered_lower r (kinds.NonAcceptance cause) lower = tt
  delivered_lower r kinds.Charge lower = tt
  delivered_lower r kinds.Delivery lower = lower
  delivered_lower r (kinds.DeliveryError refusal) lower = lower
  delivered_lower r kinds.VirusFound lower = lower
  delivered_lower r kinds.Warning lower = lower
  delivered_lower r kinds.Notice lower = lower
  delivered_lower r kinds.LateNotice lower = lower
  delivered_lower r kinds.Ack lower = lower

  received_lower : (providers : List Provider) (r : Receipt) (kind : Kind) → ArePrintable r.facts → AllByRecursion IsLowerAddress (received_by providers r (row_of kind).about)
  unfolding row_of
  received_lower providers r kinds.Acceptance facts = tt
  received_lower providers r (kinds.NonAcceptance cause) facts = tt
  received_lower providers r kinds.Charge facts = lower_at providers r.by r.facts.recipients facts.recipients
  received_lower providers r kinds.Delivery facts = tt
  received_lower providers r (kinds.DeliveryError refusal) facts = tt
  received_lower providers r kinds.VirusFound facts = tt
  received_lower providers r kinds.Warning facts = tt
  received_lower providers r kinds.Notice facts = tt
  received_lower providers r kinds.LateNotice facts = tt
  received_lower providers r kinds.Ack facts = tt

  can_be_reported : (providers : List Provider) (r : Receipt) (said : Said) → IfSome r.recipient IsLowerAddress → ArePrintable r.facts → Right said
      → CanBeReported (report_of providers r (row_of r.kind) said)
  unfolding report_of
  can_be_reported providers r said named facts right = record {
    delivered = delivered_lower r r.kind named;
    received = received_lower providers r r.kind facts;
    detail = right.printable;
  }

  -- what a receipt certifies has its text
  certified : (kept : List Kept) (r : Receipt) (said : Said) (issuer : Kept) → slice_get (providers_of kept) r.by ≡ Some issuer.provider
      → Stands kept r → Right said
      → IsCert (receipt_certificate (providers_of kept) issuer.provider.name r (stamp_of issuer.zone r.moment) (row_of r.kind) said)
      (cert_text (receipt_certificate (providers_of kept) issuer.provider.name r (stamp_of issuer.zone r.moment) (row_of r.kind) said))
  unfolding certificate_of
  certified kept r said issuer there stands right =
      let providers = providers_of kept
      in let row = row_of r.kind
      in let stamp = stamp_of issuer.zone r.moment
      in texts.certificates (receipt_certificate providers issuer.provider.name r stamp row said)
      (texts.written providers issuer.provider.name r.id stamp r.facts (report_of providers r row said) stands.lawful stands.within
      (texts.issuer providers r.by issuer.provider stands.lawful there) stands.printable stands.some
      (can_be_reported providers r said stands.named stands.printable right))
      (texts.clock issuer r.moment stands.before)

  receipt_by : (seals : Seals) (kept : List Kept) (r : Receipt) (original text : Bytes) (found : Option Said) → IsRight found → Stands kept r
      → ((issuer : Kept) → slice_get kept r.by ≡ Some issuer → slice_get (providers_of kept) r.by ≡ Some issuer.provider)
      → option_and_then (text_by seals (providers_of kept) r original (row_of r.kind) found) (slice_get kept r.by) ≡ Some text
      → IsReceiptBy seals kept r original (row_of r.kind) found text
  receipt_by seals kept r original text None right stands there e =
      let found = then_some (slice_get kept r.by) (text_by seals (providers_of kept) r original (row_of r.kind) None) text e
      in record { issuer = found.0; issuer_is = found.1.0; text_is = found.1.1 }
  receipt_by seals kept r original text (Some said) right stands there e =
      let providers = providers_of kept
      in let row = row_of r.kind
      in let found = then_some (slice_get kept r.by) (text_by seals providers r original row (Some said)) text e
      in let issuer = found.0
      in let stamp = stamp_of issuer.zone r.moment
      in let certificate = cert_text (receipt_certificate providers issuer.provider.name r stamp row said)
      in record {
        issuer = issuer;
        issuer_is = found.1.0;
        composed = record {
          certificate = certificate;
          certificate_is = certified kept r said issuer (there issuer found.1.0) stands right;
          text_is =
              (texts.letters seals r.by (receipt_heading providers r stamp row said)
              (parts_of (receipt_contents providers issuer.provider.name r stamp row said original certificate)) text).0 found.1.1;
        };
      }

  -- The text of a receipt is that receipt.
  pub receipt_is : (seals : Seals) (kept : List Kept) (r : Receipt) (original text : Bytes) → Stands kept r
      → ((issuer : Kept) → slice_get kept r.by ≡ Some issuer → slice_get (providers_of kept) r.by ≡ Some issuer.provider)
      → receipt_text seals kept r original ≡ Some text → IsReceipt seals kept r original text
  unfolding receipt_text
  receipt_is seals kept r original text stands there e =
      receipt_by seals kept r original text (row_of r.kind).said (row_right texts r.kind) stands there e

  -- ---- how long a receipt is

  brief_small : (original : Bytes) → length original ≤ 31457280 → length (brief_of original) ≤ 41943040
  brief_small original small = by (((texts.brief original (brief_of original)).0 refl))
    where
      by : IsBrief original (brief_of original) → length (brief_of original) ≤ 41943040
      by (inl short) = omega (arith, short.1)
      by (inr whole) = omega (arith, ap length whole.1, small)

  shown_small : (wish : Wish) (class : Option Class) (original : Bytes) → length original ≤ 31457280 → IfSome (shown_message wish class original) (λ m. length m ≤ 41943040)
  shown_small wishes.Full None original small = tt
  shown_small wishes.Full (Some classes.Primary) original small = omega (arith, small)
  shown_small wishes.Full (Some classes.Copy) original small = tt
  shown_small wishes.Brief class original small = brief_small original small
  shown_small wishes.Concise class original small = tt

  pub message_small : (r : Receipt) (said : Said) (original : Bytes) → length original ≤ 31457280 → IfSome (message_in r said original) (λ m. length m ≤ 41943040)
  unfolding message_in
  message_small r said original small = by said.delivers
    where
      by : (t : Bool) → IfSome (cond t (shown_message r.facts.wish (class_of r) original) None) (λ m. length m ≤ 41943040)
      by true = shown_small r.facts.wish (class_of r) original small
      by false = tt

  pub recipient_small : (found : Option Bytes) → IfSome found IsLowerAddress → length (or_nothing found) ≤ 254
  recipient_small None lower = omega arith
  recipient_small (Some address) lower = (texts.address address lower).1

  named_small : (issuer : Bytes) (r : Receipt) (kind : Kind) → length issuer ≤ 32 → IfSome r.recipient IsLowerAddress → length (named_by issuer r (row_of kind).about) ≤ 254
  unfolding row_of
  named_small issuer r kinds.Acceptance short lower = omega arith
  named_small issuer r (kinds.NonAcceptance cause) short lower = omega arith
  named_small issuer r kinds.Charge short lower = omega (arith, short)
  named_small issuer r kinds.Delivery short lower = recipient_small r.recipient lower
  named_small issuer r (kinds.DeliveryError refusal) short lower = recipient_small r.recipient lower
  named_small issuer r kinds.VirusFound short lower = recipient_small r.recipient lower
  named_small issuer r kinds.Warning short lower = recipient_small r.recipient lower
  named_small issuer r kinds.Notice short lower = recipient_small r.recipient lower
  named_small issuer r kinds.LateNotice short lower = recipient_small r.recipient lower
  named_small issuer r kinds.Ack short lower = recipient_small r.recipient lower

  explained_small : (t : Bool) (detail : Option Bytes) → IfSome detail (λ text. length text ≤ 1000) → length (explained t detail) ≤ 1002
  explained_small false detail small = omega arith
  explained_small true None small = omega arith
  explained_small true (Some detail) small = omega (arith, length-append (codes ": ") detail, small)

  pub phrase_small : (issuer : Bytes) (r : Receipt) (said : Said) → length issuer ≤ 32 → IfSome r.recipient IsLowerAddress → Right said
      → length (phrase_of issuer r (row_of r.kind) said) ≤ 2000
  unfolding phrase_of
  phrase_small issuer r said short lower right =
      omega (
        arith,
        sized (said.phrase ∷ named_by issuer r (row_of r.kind).about ∷ said.behind ∷ explained said.explains said.detail ∷ []) (codes "."),
        right.phrase,
        right.behind,
        named_small issuer r r.kind short lower,
        explained_small said.explains said.detail right.detail,
      )

  reported_small : (providers : List Provider) (r : Receipt) (kind : Kind) → AreShort r.facts.recipients → length r.facts.recipients ≤ 1000
      → length (flat_map received_line (received_by providers r (row_of kind).about)) ≤ 2000 * 1000
  unfolding row_of
  reported_small providers r kinds.Acceptance short few = omega arith
  reported_small providers r (kinds.NonAcceptance cause) short few = omega arith
  reported_small providers r kinds.Charge short few = omega (arith, received_small providers r.by r.facts.recipients short, few)
  reported_small providers r kinds.Delivery short few = omega arith
  reported_small providers r (kinds.DeliveryError refusal) short few = omega arith
  reported_small providers r kinds.VirusFound short few = omega arith
  reported_small providers r kinds.Warning short few = omega arith
  reported_small providers r kinds.Notice short few = omega arith
  reported_small providers r kinds.LateNotice short few = omega arith
  reported_small providers r kinds.Ack short few = omega arith

  pub cert_of_receipt : (providers : List Provider) (issuer : Bytes) (r : Receipt) (stamp : Instant) (said : Said) → IsLawful providers
      → r.id.provider < length providers → length issuer ≤ 32 → AreSmall r.facts → IfSome r.recipient IsLowerAddress → Right said
      → length (cert_text (receipt_certificate providers issuer r stamp (row_of r.kind) said)) ≤ 4060000
  unfolding report_of
  cert_of_receipt providers issuer r stamp said lawful within short small lower right =
      certificate_small providers issuer r.id stamp r.facts (report_of providers r (row_of r.kind) said) lawful within short small
      (lower_short (delivered_to r (row_of r.kind).about) (delivered_lower r r.kind lower))
      (reported_small providers r r.kind (all_short r.facts.recipients small.printable.recipients) small.few) right.detail

  messages_small : (r : Receipt) (original : Bytes) → length original ≤ 31457280 → (found : Option Said)
      → IfSome found (λ (said : Said). MessageFits r said original)
  messages_small r original fits None = tt
  messages_small r original fits (Some said) = longer_message (message_in r said original) (message_small r said original fits)

  there_by : (seals : Seals) (kept : List Kept) (r : Receipt) (original : Bytes) (found : Option Said) (issuer : Issuer kept r.by) → IsRight found → Stands kept r
      → AreSmall r.facts → IfSome found (λ (said : Said). MessageFits r said original) → length issuer.issuer.provider.name ≤ 32
      → seals.name_of r.by ≡ Some issuer.issuer.provider.name
      → (text : Bytes) × (option_and_then (text_by seals (providers_of kept) r original (row_of r.kind) found) (slice_get kept r.by) ≡ Some text)
  there_by seals kept r original None issuer right stands small fits short named =
      let row = row_of r.kind
      in let by = text_by seals (providers_of kept) r original row None
      in let bytes = with_head (heading_fields (ack_heading (providers_of kept) r (stamp_of issuer.issuer.zone r.moment) row)) ack_body
      in let text = λ (called : Bytes). line_text (record { name = called; tag = seals.tag_of r.by bytes; bytes = bytes })
      in (text issuer.issuer.provider.name, ap (option_and_then by) issuer.is ∙ ap (option_map text) named)
  there_by seals kept r original (Some said) issuer right stands small fits short named =
      let providers = providers_of kept
      in let row = row_of r.kind
      in let name = issuer.issuer.provider.name
      in let stamp = stamp_of issuer.issuer.zone r.moment
      in let certificate = cert_text (receipt_certificate providers name r stamp row said)
      in let letter = letter_there texts seals r.by (receipt_heading providers r stamp row said)
      (parts_of (receipt_contents providers name r stamp row said original certificate)) name named
      (parts_small (told_text providers r.id stamp r.facts (phrase_of name r row said)) certificate (message_in r said original)
      (text_of_people providers r.id stamp r.facts (phrase_of name r row said) stands.lawful stands.within small (phrase_small name r said short stands.named right))
      (cert_of_receipt providers name r stamp said stands.lawful stands.within short small stands.named right)
      fits)
      in (letter.0, ap (option_and_then (text_by seals providers r original row (Some said))) issuer.is ∙ letter.1)

  -- A receipt of short facts has its text, where what it shows of the message isn't too long.
  pub receipt_with : (seals : Seals) (kept : List Kept) (r : Receipt) (original : Bytes) (issuer : Issuer kept r.by) → Stands kept r → AreSmall r.facts
      → IfSome (row_of r.kind).said (λ (said : Said). MessageFits r said original) → length issuer.issuer.provider.name ≤ 32
      → seals.name_of r.by ≡ Some issuer.issuer.provider.name → (text : Bytes) × (receipt_text seals kept r original ≡ Some text)
  unfolding receipt_text
  receipt_with seals kept r original issuer stands small fits short named =
      there_by seals kept r original (row_of r.kind).said issuer (row_right texts r.kind) stands small fits short named

  -- So has one on a message of at most 30 MiB.
  pub receipt_there : (seals : Seals) (kept : List Kept) (r : Receipt) (original : Bytes) (issuer : Issuer kept r.by) → Stands kept r → AreSmall r.facts
      → length original ≤ 31457280 → length issuer.issuer.provider.name ≤ 32 → seals.name_of r.by ≡ Some issuer.issuer.provider.name
      → (text : Bytes) × (receipt_text seals kept r original ≡ Some text)
  receipt_there seals kept r original issuer stands small fits short named =
      receipt_with seals kept r original issuer stands small (messages_small r original fits (row_of r.kind).said) short named
