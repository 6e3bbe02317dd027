-- Certification texts: what a text certifies (`IsCert`), and which fault a text has that certifies nothing
-- (`IsCertFault`, at the end). RFC 6109 section 4.4 for what they are for; their spelling, and which faults come where,
-- are this project's profile.
use Rattle.std.specs.Prelude.{◌≡◌, ◌⊎◌, List, [], ◌∷◌, ◌++◌, length, map, Option, Some, None, IfSome, Err, codes}
use Rattle.std.specs.List.{flat_map, AllByRecursion}
use Rattle.pec_types.specs.Address.{IsLowerAddress}
use Rattle.pec_types.specs.Bytes.{Bytes}
use Rattle.pec_types.specs.Text.{AllPrintable}
use Rattle.pec_grammar.specs.FirstFault.{FirstFault}
use Rattle.pec_grammar.specs.Grammar.{optional_text, AllOfSome}
use Rattle.pec_cert.specs.Markup.{opening, element}
use Rattle.pec_cert.specs.Stamp.{Instant}
use Rattle.pec_cert.specs.Shown.{before_part, IsShown, AnswersShown}
use Rattle.pec_cert.specs.Front.{IsWrongIn}
use Rattle.pec_cert.specs.Lines.{front_text, addressee_opening, addressee_text, shown_text, wish_text, text_of, IsShape}
use Rattle.pec_cert.specs.declared.certificates.CertData.{CertData}
use Rattle.pec_cert.specs.declared.certificates.CertRecipient.{CertRecipient}
use Rattle.pec_cert.specs.declared.lines.Addressee.{Addressee}
use Rattle.pec_cert.specs.declared.stamps.Shown.{Shown}
use Rattle.pec_cert.specs.declared.lines.Lines.{Lines}
use Rattle.pec_cert.specs.declared.dates.Part.{Part}
use Rattle.pec_cert.specs.declared.faults.CertFault.{CertFault}
use Rattle.pec_cert.specs.declared.faults.CertFault.TheVariants.{Syntax, BadDate, BadAddress, NoMemory}

-- a recipient, as it stands in a line
abbrev pub addressee : CertRecipient → Addressee
addressee r = record { certified = r.certified; address = r.address }

-- the lines of a certificate, whose moment is shown so
abbrev pub lines_of : CertData → Shown → Lines
lines_of c shown = record {
  kind = c.kind;
  error = c.error;
  sender = c.sender;
  recipients = map addressee c.recipients;
  reply = c.reply;
  subject = c.subject;
  provider = c.provider;
  shown = shown;
  id = c.id;
  reference = c.reference;
  wish = c.wish;
  delivered = c.delivered;
  received = c.received;
  detail = c.detail;
}

-- addresses are in lower case, texts are printable, and there is a recipient
pub record CanBeWritten (c : CertData) : Type 0 where
  pub sender : IsLowerAddress c.sender
  pub recipients : AllOfSome (λ (r : CertRecipient). IsLowerAddress r.address) c.recipients
  pub reply : AllPrintable c.reply
  pub subject : IfSome c.subject AllPrintable
  pub provider : AllPrintable c.provider
  pub id : AllPrintable c.id
  pub reference : IfSome c.reference AllPrintable
  pub delivered : IfSome c.delivered IsLowerAddress
  pub received : AllByRecursion IsLowerAddress c.received
  pub detail : IfSome c.detail AllPrintable

-- the text certifies this
pub record IsCert (c : CertData) (text : Bytes) : Type 0 where
  pub shown : Shown
  pub stamp : IsShown shown c.stamp
  pub written : CanBeWritten c
  pub spelled : text ≡ text_of (lines_of c shown)

-- The values of a text that aren't any text or any digits, in their order, each with all that stands before it.

-- an address, or what is shown of a moment
pub data Value : Type 0 where
  address : (bytes : Bytes) → Value
  clock : (shown : Shown) → Value

-- an address in each of these lines, behind an opening tag
abbrev pub values_from : {X : Type 0} → (X → Bytes) → (X → Bytes) → (X → Bytes) → Bytes → List X → List (Bytes × Value)
values_from tag bytes line front [] = []
values_from tag bytes line front (x ∷ xs) =
    (front ++ tag x, address (bytes x)) ∷ values_from tag bytes line (front ++ line x) xs

-- the recipients' addresses
abbrev pub addressees_from : Bytes → List Addressee → List (Bytes × Value)
addressees_from front rs =
    values_from (λ (r : Addressee). addressee_opening r.certified) (λ (r : Addressee). r.address) addressee_text front
    rs

-- the address of `consegna`, if it is there
abbrev pub delivered_from : Bytes → Option (Bytes) → List (Bytes × Value)
delivered_from front None = []
delivered_from front (Some bytes) = (front ++ opening (codes "consegna"), address bytes) ∷ []

-- the addresses of `ricezione`
abbrev pub received_from : Bytes → List Bytes → List (Bytes × Value)
received_from front texts =
    values_from (λ _. opening (codes "ricezione")) (λ bytes. bytes) (element (codes "ricezione")) front texts

-- the text before the recipients, before what is shown, before `consegna` and before `ricezione`

abbrev pub before_recipients : Lines → Bytes
before_recipients l = front_text l.kind l.error ++ element (codes "mittente") l.sender

abbrev pub before_shown : Lines → Bytes
before_shown l =
    before_recipients l ++ (flat_map addressee_text l.recipients
    ++ (element (codes "risposte") l.reply
    ++ (optional_text (element (codes "oggetto")) l.subject
    ++ (codes "</intestazione>\r\n<dati>\r\n"
    ++ element (codes "gestore-emittente") l.provider))))

abbrev pub before_delivered : Lines → Bytes
before_delivered l =
    before_shown l ++ (shown_text l.shown
    ++ (element (codes "identificativo") l.id
    ++ (optional_text (element (codes "msgid")) l.reference
    ++ optional_text wish_text l.wish)))

abbrev pub before_received : Lines → Bytes
before_received l = before_delivered l ++ optional_text (element (codes "consegna")) l.delivered

-- all of them
abbrev pub values : Lines → List (Bytes × Value)
values l =
    (front_text l.kind l.error ++ opening (codes "mittente"), address l.sender)
    ∷ (addressees_from (before_recipients l) l.recipients
    ++ ((before_shown l ++ codes "<data zona=\"", clock l.shown)
    ∷ (delivered_from (before_delivered l) l.delivered
    ++ received_from (before_received l) l.received)))

-- a value that may stand in a certification text
abbrev pub IsGood : Value → Type 0
IsGood (address bytes) = IsLowerAddress bytes
IsGood (clock shown) = (stamp : Instant) × IsShown shown stamp

-- the fault of a value that is wrong
abbrev pub IsFaultOf : Bytes → Value → CertFault → Type 0
IsFaultOf front (address bytes) (BadAddress place) = (IsLowerAddress bytes → ⊥) × (place ≡ length front)
IsFaultOf front (clock shown) (BadDate place) =
    (part : Part) × AnswersShown shown (Err part) × (place ≡ length (before_part front shown part))
IsFaultOf front value fault = ⊥

-- the fault of the first value that is wrong
abbrev pub IsFirstFault : List (Bytes × Value) → CertFault → Type 0
IsFirstFault [] fault = ⊥
IsFirstFault (v ∷ vs) fault = IsFaultOf v.0 v.1 fault ⊎ (IsGood v.1 × IsFirstFault vs fault)

-- The text is no certification text, and this is its first fault: where it has the shape of one, that of the first value
-- that is wrong; and else that of the first wrong value that stands in it, or the place where the shape ends, where none
-- is wrong in front of it.
abbrev pub IsCertFault : Bytes → CertFault → Type 0
IsCertFault text (Syntax place) = FirstFault IsShape text place × ((fault : CertFault) → IsWrongIn text fault → ⊥)
IsCertFault text NoMemory = ⊥
IsCertFault text fault =
    ((l : Lines) × IsShape l text × IsFirstFault (values l) fault)
    ⊎ (((l : Lines) → IsShape l text → ⊥) × IsWrongIn text fault)
