-- How long the parts of a letter are: far less than 2^64 bytes together, where the message has at most 64 MiB.
use Rattle.std.proofs.Common.{◌≡◌, ℕ, ◌+◌, ◌*◌, ◌<◌, ◌≤◌, ◌^◌, Bool, true, false, cond, List, [], ◌∷◌, ◌++◌, length, map, Option, None, Some, codes, refl, ap, ◌∙◌, arith, append_assoc, length-append}
use Rattle.std.specs.List.{AllByRecursion, flat_map}
use Rattle.std.specs.Option.{IfSome}
use Rattle.pec_types.specs.Bytes.{Bytes}
use Rattle.pec_types.specs.Message.{Id}
use Rattle.pec_types.specs.Words.{refusal_word}
use Rattle.pec_types.specs.declared.messages.Facts.{Facts}
use Rattle.pec_types.specs.declared.messages.Refusal.{Refusal}
use Rattle.pec_types.specs.declared.messages.Refusal.TheVariants as refusals
use Rattle.pec_types.specs.declared.messages.Wish.{Wish}
use Rattle.pec_types.specs.declared.messages.Wish.TheVariants as wishes
use Rattle.pec_grammar.specs.Grammar.{optional_text}
use Rattle.pec_heads.specs.WrittenHeads.{head_text}
use Rattle.pec_bodies.specs.Composing.{bytes_of}
use Rattle.pec_cert.specs.Certificate.{addressee}
use Rattle.pec_cert.specs.CertificateReading.{cert_text}
use Rattle.pec_cert.specs.Clock.{shown_of}
use Rattle.pec_cert.specs.HeaderDate.{day_line_of}
use Rattle.pec_cert.specs.Lines.{addressee_opening, addressee_text, error_word, front_text, kind_word, shown_text, wish_text}
use Rattle.pec_cert.specs.Markup.{closing, element, escape, two_digits}
use Rattle.pec_cert.specs.Shown.{day_text, sign_word, time_text, zone_text}
use Rattle.pec_cert.specs.Stamp.{Instant}
use Rattle.pec_cert.specs.declared.certificates.CertData.{CertData}
use Rattle.pec_cert.specs.declared.certificates.CertError.{CertError}
use Rattle.pec_cert.specs.declared.certificates.CertError.TheVariants as errors
use Rattle.pec_cert.specs.declared.certificates.CertKind.{CertKind}
use Rattle.pec_cert.specs.declared.certificates.CertKind.TheVariants as certs
use Rattle.pec_cert.specs.declared.certificates.CertRecipient.{CertRecipient}
use Rattle.pec_cert.specs.declared.stamps.Shown.{Shown}
use Rattle.pec_cert.specs.declared.stamps.ShownZone.{ShownZone}
use Rattle.pec_directory.specs.Directory.{Provider}
use Rattle.pec_letter_parts.specs.Contents.{lines_text, part_fields, part_text, parts_of}
use Rattle.pec_letter_parts.specs.declared.contents.PartKind.{PartKind}
use Rattle.pec_letter_parts.specs.declared.contents.PartKind.TheVariants as parts
use Rattle.pec_letter_facts.specs.Certifying.{name_of, told_text, with_subject}

-- ---- pieces one behind another

abbrev pub before : List Bytes → Bytes → Bytes
before [] last = last
before (piece ∷ pieces) last = piece ++ before pieces last

abbrev pub total : List Bytes → ℕ
total [] = 0
total (piece ∷ pieces) = length piece + total pieces

pub sized : (pieces : List Bytes) (last : Bytes) → length (before pieces last) ≡ total pieces + length last
sized [] last = omega arith
sized (piece ∷ pieces) last = omega (arith, length-append piece (before pieces last), sized pieces last)

optional_small : {X : Type 0} (spell : X → Bytes) (n : ℕ) (o : Option X) → IfSome o (λ x. length (spell x) ≤ n) → length (optional_text spell o) ≤ n
optional_small spell n None small = omega arith
optional_small spell n (Some x) small = small

all_small : {X : Type 0} (spell : X → Bytes) (xs : List X) → AllByRecursion (λ x. length (spell x) ≤ 2000) xs → length (flat_map spell xs) ≤ 2000 * length xs
all_small spell [] small = omega arith
all_small spell (x ∷ xs) small = omega (arith, length-append (spell x) (flat_map spell xs), small.0, all_small spell xs small.1)

-- ---- certification texts

escaped_by : (a b d q : Bool) (c : ℕ) → length (cond a (codes "&amp;") (cond b (codes "&lt;") (cond d (codes "&gt;") (cond q (codes "&quot;") (c ∷ []))))) ≤ 6
escaped_by true b d q c = omega arith
escaped_by false true d q c = omega arith
escaped_by false false true q c = omega arith
escaped_by false false false true c = omega arith
escaped_by false false false false c = omega arith

escaped : (c : ℕ) → length (escape c) ≤ 6
escaped c = escaped_by _ _ _ _ c

text_escaped : (text : Bytes) → length (flat_map escape text) ≤ 6 * length text
text_escaped [] = omega arith
text_escaped (c ∷ text) = omega (arith, length-append (escape c) (flat_map escape text), escaped c, text_escaped text)

pub element_small : (name text : Bytes) (n : ℕ) → length name ≤ 20 → length text ≤ n → length (element name text) ≤ 6 * n + 60
element_small name text n short small =
    let whole : length (element name text) ≡ total (codes "<" ∷ name ∷ codes ">" ∷ flat_map escape text ∷ codes "</" ∷ name ∷ []) + length (codes ">\r\n") =
    ap length (ap (λ (bytes : Bytes). codes "<" ++ bytes) (append_assoc name (codes ">") (flat_map escape text ++ closing name)))
    ∙ sized (codes "<" ∷ name ∷ codes ">" ∷ flat_map escape text ∷ codes "</" ∷ name ∷ []) (codes ">\r\n")
    in omega (arith, whole, text_escaped text)

kind_small : (kind : CertKind) → length (kind_word kind) ≤ 30
kind_small certs.Acceptance = omega arith
kind_small certs.NonAcceptance = omega arith
kind_small certs.Charge = omega arith
kind_small certs.Delivery = omega arith
kind_small certs.Envelope = omega arith
kind_small certs.DeliveryError = omega arith
kind_small certs.DelayNotice = omega arith
kind_small certs.VirusDetection = omega arith

error_small : (error : CertError) → length (error_word error) ≤ 30
error_small errors.Nothing = omega arith
error_small errors.NoRecipient = omega arith
error_small errors.NoDomain = omega arith
error_small errors.Virus = omega arith
error_small errors.Other = omega arith

wish_small : (wish : Wish) → length (wish_text wish) ≤ 60
wish_small wishes.Full = omega arith
wish_small wishes.Brief = omega arith
wish_small wishes.Concise = omega arith

front_small : (kind : CertKind) (error : CertError) → length (front_text kind error) ≤ 200
front_small kind error =
    omega (
      arith,
      sized (codes "<?xml version=\"1.0\" encoding=\"UTF-8\"?>\r\n<postacert tipo=\"" ∷ kind_word kind ∷ codes "\" errore=\"" ∷ error_word error ∷ [])
          (codes "\">\r\n<intestazione>\r\n"),
      kind_small kind,
      error_small error,
    )

addressee_small : (r : CertRecipient) → length r.address ≤ 254 → length (addressee_text (addressee r)) ≤ 2000
addressee_small r small =
    omega (
      arith,
      sized (addressee_opening r.certified ∷ flat_map escape r.address ∷ []) (closing (codes "destinatari")),
      opened r.certified,
      text_escaped r.address,
    )
  where
    opened : (certified : Bool) → length (addressee_opening certified) ≤ 60
    opened true = omega arith
    opened false = omega arith

sign_one : (ahead : Bool) → length (sign_word ahead) ≡ 1
sign_one true = refl
sign_one false = refl

pub zone_five : (zone : ShownZone) → length (zone_text zone) ≡ 5
zone_five zone =
    let same : length (zone_text zone) ≡ length (sign_word zone.ahead) + 4 = length-append (sign_word zone.ahead) (two_digits zone.hours ++ two_digits zone.minutes)
    in omega (arith, same, sign_one zone.ahead)

shown_small : (shown : Shown) → length (shown_text shown) ≤ 200
shown_small shown =
    omega (
      arith,
      sized (codes "<data zona=\"" ∷ zone_text shown.zone ∷ codes "\">\r\n" ∷ codes "<giorno>" ∷ day_text shown.day ∷ codes "</giorno>\r\n" ∷ codes "<ora>"
          ∷ time_text shown.time ∷ codes "</ora>\r\n" ∷ []) (codes "</data>\r\n"),
      zone_five shown.zone,
    )

-- values of a certificate that are short, for so many recipients
pub record IsSmall (c : CertData) (count : ℕ) : Type 0 where
  pub sender : length c.sender ≤ 1000
  pub recipients : AllByRecursion (λ (r : CertRecipient). length r.address ≤ 254) c.recipients
  pub few : length c.recipients ≤ count
  pub reply : length c.reply ≤ 1000
  pub subject : IfSome c.subject (λ text. length text ≤ 1000)
  pub provider : length c.provider ≤ 1000
  pub id : length c.id ≤ 1000
  pub reference : IfSome c.reference (λ text. length text ≤ 1000)
  pub delivered : IfSome c.delivered (λ text. length text ≤ 1000)
  pub received : length (flat_map (element (codes "ricezione")) c.received) ≤ 2000 * count
  pub detail : IfSome c.detail (λ text. length text ≤ 1000)

value_small : (name : Bytes) → length name ≤ 20 → (o : Option Bytes) → IfSome o (λ text. length text ≤ 1000) → length (optional_text (element name) o) ≤ 6060
value_small name short None small = omega arith
value_small name short (Some text) small = omega (arith, element_small name text 1000 short small)

wished_small : (o : Option Wish) → length (optional_text wish_text o) ≤ 60
wished_small None = omega arith
wished_small (Some wish) = wish_small wish

lines_small : (all : List CertRecipient) → AllByRecursion (λ (r : CertRecipient). length r.address ≤ 254) all
    → length (flat_map addressee_text (map addressee all)) ≤ 2000 * length all
lines_small [] small = omega arith
lines_small (r ∷ all) small =
    omega (
      arith,
      length-append (addressee_text (addressee r)) (flat_map addressee_text (map addressee all)),
      addressee_small r small.0,
      lines_small all small.1,
    )

abbrev pieces : CertData → Shown → List Bytes
pieces c shown =
    front_text c.kind c.error ∷ element (codes "mittente") c.sender ∷ flat_map addressee_text (map addressee c.recipients)
    ∷ element (codes "risposte") c.reply ∷ optional_text (element (codes "oggetto")) c.subject ∷ codes "</intestazione>\r\n" ∷ codes "<dati>\r\n"
    ∷ element (codes "gestore-emittente") c.provider ∷ shown_text shown ∷ element (codes "identificativo") c.id
    ∷ optional_text (element (codes "msgid")) c.reference ∷ optional_text wish_text c.wish ∷ optional_text (element (codes "consegna")) c.delivered
    ∷ flat_map (element (codes "ricezione")) c.received ∷ optional_text (element (codes "errore-esteso")) c.detail ∷ codes "</dati>\r\n" ∷ []

pub cert_small : (c : CertData) (count : ℕ) → IsSmall c count → length (cert_text c) ≤ 4000 * count + 60000
cert_small c count small =
    let shown = shown_of c.stamp
    in let whole : length (cert_text c) ≡ total (pieces c shown) + length (codes "</postacert>\r\n") = sized (pieces c shown) (codes "</postacert>\r\n")
    in omega (
      arith,
      whole,
      front_small c.kind c.error,
      element_small (codes "mittente") c.sender 1000 (omega arith) small.sender,
      lines_small c.recipients small.recipients,
      small.few,
      element_small (codes "risposte") c.reply 1000 (omega arith) small.reply,
      value_small (codes "oggetto") (omega arith) c.subject small.subject,
      element_small (codes "gestore-emittente") c.provider 1000 (omega arith) small.provider,
      shown_small shown,
      element_small (codes "identificativo") c.id 1000 (omega arith) small.id,
      value_small (codes "msgid") (omega arith) c.reference small.reference,
      wished_small c.wish,
      value_small (codes "consegna") (omega arith) c.delivered small.delivered,
      small.received,
      value_small (codes "errore-esteso") (omega arith) c.detail small.detail,
    )

-- ---- the text for people

day_line_small : (stamp : Instant) → length (day_line_of stamp) ≤ 100
day_line_small stamp =
    let shown = shown_of stamp
    in omega (
      arith,
      sized (codes "Giorno " ∷ day_text shown.day ∷ codes " ore " ∷ time_text shown.time ∷ codes " (" ∷ zone_text shown.zone ∷ []) (codes ")"),
      zone_five shown.zone,
    )

pub subject_small : (prefix : Bytes) (subject : Option Bytes) → IfSome subject (λ text. length text ≤ 1000) → length (with_subject prefix subject) ≤ length prefix + 1000
subject_small prefix None small = omega (arith, length-append prefix [])
subject_small prefix (Some subject) small = omega (arith, length-append prefix subject)

pub told_small : (providers : List Provider) (id : Id) (stamp : Instant) (facts : Facts) (phrase : Bytes) → length facts.sender ≤ 1000
    → IfSome facts.subject (λ text. length text ≤ 1000) → length (name_of providers id) ≤ 1000 → length phrase ≤ 2000 → length (told_text providers id stamp facts phrase) ≤ 6000
unfolding told_text
told_small providers id stamp facts phrase sender subject name short =
    omega (
      arith,
      sized (day_line_of stamp ∷ codes "\r\n" ∷ (codes "Mittente: " ++ facts.sender) ∷ codes "\r\n" ∷ with_subject (codes "Oggetto: ") facts.subject ∷ codes "\r\n"
          ∷ (codes "Identificativo: " ++ name_of providers id) ∷ codes "\r\n" ∷ []) phrase,
      day_line_small stamp,
      length-append (codes "Mittente: ") facts.sender,
      subject_small (codes "Oggetto: ") facts.subject subject,
      length-append (codes "Identificativo: ") (name_of providers id),
    )

-- ---- parts

pub part_small : (kind : PartKind) (body : Bytes) → length (part_text kind body) ≤ length body + 300
part_small parts.Text body = omega (arith, length-append (head_text (part_fields parts.Text)) (13 ∷ 10 ∷ body))
part_small parts.Message body = omega (arith, length-append (head_text (part_fields parts.Message)) (13 ∷ 10 ∷ body))
part_small parts.Certificate body = omega (arith, length-append (head_text (part_fields parts.Certificate)) (13 ∷ 10 ∷ body))

-- The parts have far less than 2^64 bytes.
pub parts_small : (text certificate : Bytes) (message : Option Bytes) → length text ≤ 6000 → length certificate ≤ 4060000 → IfSome message (λ m. length m ≤ 67108864)
    → bytes_of (parts_of (record { text = text; message = message; certificate = Some certificate })) < 2 ^ 64
unfolding parts_of
parts_small text certificate None short small m =
    omega (arith, part_small parts.Text text, part_small parts.Certificate certificate)
parts_small text certificate (Some message) short small m =
    omega (arith, part_small parts.Text text, part_small parts.Message message, part_small parts.Certificate certificate)

-- So have those of a letter that certifies nothing, with its one line for people behind the date.
pub bare_parts_small : (stamp : Instant) (phrase message : Bytes) → length phrase ≤ 1000 → length message ≤ 67108864
    → bytes_of (parts_of (record { text = lines_text (day_line_of stamp ∷ phrase ∷ []); message = Some message; certificate = None })) < 2 ^ 64
unfolding parts_of
bare_parts_small stamp phrase message short m =
    let text = lines_text (day_line_of stamp ∷ phrase ∷ [])
    in omega (
      arith,
      part_small parts.Text text,
      sized (day_line_of stamp ∷ codes "\r\n" ∷ []) phrase,
      day_line_small stamp,
      part_small parts.Message message,
    )

-- ---- words of errors

pub refusal_small : (refusal : Refusal) → length (refusal_word refusal) ≤ 20
refusal_small refusals.NoMailbox = omega arith
refusal_small refusals.MailboxFull = omega arith
refusal_small refusals.Virus = omega arith
