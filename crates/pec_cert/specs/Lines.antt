-- The lines of a certification text (`text_of`, and `IsShape` at the end): RFC 6109 section 4.4 for what the elements
-- are for, this project's profile for their order and spelling. Here an address is any text, and a date any digits.
use Rattle.std.specs.Prelude.{◌≡◌, Bool, true, false, ◌++◌, IfSome, codes}
use Rattle.std.specs.List.{flat_map, AllByRecursion}
use Rattle.pec_types.specs.Bytes.{Bytes}
use Rattle.pec_types.specs.Text.{AllPrintable}
use Rattle.pec_types.specs.Words.{wish_word}
use Rattle.pec_types.specs.declared.messages.Wish.{Wish}
use Rattle.pec_grammar.specs.Grammar.{optional_text, AllOfSome}
use Rattle.pec_cert.specs.Markup.{escape, closing, element}
use Rattle.pec_cert.specs.Shown.{zone_text, day_text, time_text, HasDigits}
use Rattle.pec_cert.specs.declared.certificates.CertKind.{CertKind}
use Rattle.pec_cert.specs.declared.certificates.CertKind.TheVariants as kinds
use Rattle.pec_cert.specs.declared.certificates.CertError.{CertError}
use Rattle.pec_cert.specs.declared.certificates.CertError.TheVariants as errors
use Rattle.pec_cert.specs.declared.lines.Addressee.{Addressee}
use Rattle.pec_cert.specs.declared.stamps.Shown.{Shown}
use Rattle.pec_cert.specs.declared.lines.Lines.{Lines}

-- the word of a kind
abbrev pub kind_word : CertKind → Bytes
kind_word kinds.Acceptance = codes "accettazione"
kind_word kinds.NonAcceptance = codes "non-accettazione"
kind_word kinds.Charge = codes "presa-in-carico"
kind_word kinds.Delivery = codes "avvenuta-consegna"
kind_word kinds.Envelope = codes "posta-certificata"
kind_word kinds.DeliveryError = codes "errore-consegna"
kind_word kinds.DelayNotice = codes "preavviso-errore-consegna"
kind_word kinds.VirusDetection = codes "rilevazione-virus"

-- the word of an error
abbrev pub error_word : CertError → Bytes
error_word errors.Nothing = codes "nessuno"
error_word errors.NoRecipient = codes "no-dest"
error_word errors.NoDomain = codes "no-dominio"
error_word errors.Virus = codes "virus"
error_word errors.Other = codes "altro"

-- the word of a recipient's class: certified or not
abbrev pub class_word : Bool → Bytes
class_word true = codes "certificato"
class_word false = codes "esterno"

-- the first three lines
abbrev pub front_text : CertKind → CertError → Bytes
front_text kind error =
    codes "<?xml version=\"1.0\" encoding=\"UTF-8\"?>\r\n<postacert tipo=\"" ++ (kind_word kind
    ++ (codes "\" errore=\"" ++ (error_word error ++ codes "\">\r\n<intestazione>\r\n")))

-- the tag before a recipient's address
abbrev pub addressee_opening : Bool → Bytes
addressee_opening certified = codes "<destinatari tipo=\"" ++ (class_word certified ++ codes "\">")

-- the line of a recipient
abbrev pub addressee_text : Addressee → Bytes
addressee_text r = addressee_opening r.certified ++ (flat_map escape r.address ++ closing (codes "destinatari"))

-- the four lines of a moment
abbrev pub shown_text : Shown → Bytes
shown_text shown =
    codes "<data zona=\"" ++ (zone_text shown.zone ++ (codes "\">\r\n"
    ++ (codes "<giorno>" ++ (day_text shown.day ++ (codes "</giorno>\r\n"
    ++ (codes "<ora>" ++ (time_text shown.time ++ (codes "</ora>\r\n"
    ++ codes "</data>\r\n"))))))))

-- the line of a wish
abbrev pub wish_text : Wish → Bytes
wish_text wish = codes "<ricevuta tipo=\"" ++ (wish_word wish ++ codes "\"/>\r\n")

-- the text, line by line
abbrev pub text_of : Lines → Bytes
text_of l =
    front_text l.kind l.error
    ++ (element (codes "mittente") l.sender
    ++ (flat_map addressee_text l.recipients
    ++ (element (codes "risposte") l.reply
    ++ (optional_text (element (codes "oggetto")) l.subject
    ++ (codes "</intestazione>\r\n"
    ++ (codes "<dati>\r\n"
    ++ (element (codes "gestore-emittente") l.provider
    ++ (shown_text l.shown
    ++ (element (codes "identificativo") l.id
    ++ (optional_text (element (codes "msgid")) l.reference
    ++ (optional_text wish_text l.wish
    ++ (optional_text (element (codes "consegna")) l.delivered
    ++ (flat_map (element (codes "ricezione")) l.received
    ++ (optional_text (element (codes "errore-esteso")) l.detail
    ++ (codes "</dati>\r\n"
    ++ codes "</postacert>\r\n")))))))))))))))

-- what can stand in a text: printable bytes, digits, and one recipient or more
pub record Fits (l : Lines) : Type 0 where
  pub sender : AllPrintable l.sender
  pub recipients : AllOfSome (λ (r : Addressee). AllPrintable r.address) l.recipients
  pub reply : AllPrintable l.reply
  pub subject : IfSome l.subject AllPrintable
  pub provider : AllPrintable l.provider
  pub shown : HasDigits l.shown
  pub id : AllPrintable l.id
  pub reference : IfSome l.reference AllPrintable
  pub delivered : IfSome l.delivered AllPrintable
  pub received : AllByRecursion AllPrintable l.received
  pub detail : IfSome l.detail AllPrintable

-- a text has the shape of a certification text
abbrev pub IsShape : Lines → Bytes → Type 0
IsShape l text = Fits l × (text ≡ text_of l)
