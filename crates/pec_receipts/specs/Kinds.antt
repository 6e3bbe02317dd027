-- The table of receipts and notices (RFC 6109, sections 3.1 to 3.3, for what they are for; words are this project's profile): one row a
-- kind, `row_of`, at the end.
use Rattle.std.specs.Prelude.{List, [], ◌∷◌, ◌++◌, map, Bool, true, false, Option, None, Some, codes}
use Rattle.pec_types.specs.Bytes.{Bytes}
use Rattle.pec_types.specs.Words.{all_causes, cause_word, refusal_word}
use Rattle.pec_types.specs.declared.messages.Cause.{Cause}
use Rattle.pec_types.specs.declared.messages.Cause.TheVariants as causes
use Rattle.pec_types.specs.declared.messages.Refusal.{Refusal}
use Rattle.pec_types.specs.declared.messages.Refusal.TheVariants as refusals
use Rattle.pec_types.specs.declared.receipts.Kind.{Kind}
use Rattle.pec_types.specs.declared.receipts.Kind.TheVariants as kinds
use Rattle.pec_cert.specs.declared.certificates.CertError.{CertError}
use Rattle.pec_cert.specs.declared.certificates.CertError.TheVariants as errors
use Rattle.pec_cert.specs.declared.certificates.CertKind.{CertKind}
use Rattle.pec_cert.specs.declared.certificates.CertKind.TheVariants as certs
use Rattle.pec_receipts.specs.declared.kinds.About.{About}
use Rattle.pec_receipts.specs.declared.kinds.About.TheVariants as about
use Rattle.pec_receipts.specs.declared.kinds.Addressee.{Addressee}
use Rattle.pec_receipts.specs.declared.kinds.Addressee.TheVariants as to

-- What a receipt certifies and says: the word of `X-Ricevuta`, kind and error of the certification text, whether the head says that a
-- virus was found, whether the wish is certified, whether the message itself may stand in it, what the error is in words, the phrase
-- for people up to whom it names, how it goes on behind that, and whether those words follow.
pub record Said : Type 0 where
  pub word : Bytes
  pub kind : CertKind
  pub error : CertError
  pub flagged : Bool
  pub wish : Bool
  pub delivers : Bool
  pub detail : Option Bytes
  pub phrase : Bytes
  pub behind : Bytes
  pub explains : Bool

-- A row of the table: the tag of the name, the prefix of the subject, what the receipt is about beside the message, who gets it, whether
-- a reader takes it of another provider than the message's too, and what it certifies; an acknowledgement certifies nothing.
pub record Row : Type 0 where
  pub tag : Bytes
  pub prefix : Bytes
  pub about : About
  pub to : Addressee
  pub elsewhere : Bool
  pub said : Option Said

abbrev pub cause_error : Cause → CertError
cause_error causes.Virus = errors.Virus
cause_error other = errors.Other

abbrev pub refusal_error : Refusal → CertError
refusal_error refusals.NoMailbox = errors.NoRecipient
refusal_error refusals.MailboxFull = errors.Other
refusal_error refusals.Virus = errors.Virus

abbrev pub is_virus : CertError → Bool
is_virus errors.Nothing = false
is_virus errors.NoRecipient = false
is_virus errors.NoDomain = false
is_virus errors.Virus = true
is_virus errors.Other = false

-- ---- the columns that some rows share

-- nothing went wrong, and nothing is added
abbrev pub all_well : Bytes → CertKind → Bool → Bool → Bytes → Said
all_well word kind wish delivers phrase = record {
  word = word;
  kind = kind;
  error = errors.Nothing;
  flagged = false;
  wish = wish;
  delivers = delivers;
  detail = None;
  phrase = phrase;
  behind = [];
  explains = false;
}

-- something went wrong, and the phrase goes on with it
abbrev pub refused : Bytes → CertKind → CertError → Bytes → Bytes → Said
refused word kind error detail phrase = record {
  word = word;
  kind = kind;
  error = error;
  flagged = is_virus error;
  wish = false;
  delivers = false;
  detail = Some detail;
  phrase = phrase;
  behind = [];
  explains = true;
}

-- nothing is known within a time
abbrev pub delayed : Bytes → Bytes → Said
delayed detail phrase = record {
  word = codes "preavviso-errore-consegna";
  kind = certs.DelayNotice;
  error = errors.Other;
  flagged = false;
  wish = false;
  delivers = false;
  detail = Some detail;
  phrase = phrase;
  behind = [];
  explains = false;
}

-- A screen of the recipient's provider found a rule: the sender's provider is told, and the sender by that one alone. So the head has no
-- mark of a virus, which is for people, and the message itself isn't sent back.
abbrev pub virus_found : Said
virus_found = record {
  word = codes "rilevazione-virus";
  kind = certs.VirusDetection;
  error = errors.Virus;
  flagged = false;
  wish = false;
  delivers = false;
  detail = Some (refusal_word refusals.Virus);
  phrase = codes "Il messaggio per ";
  behind = codes " contiene un virus";
  explains = false;
}

-- a row of what goes to the sender
abbrev pub to_sender : Bytes → Bytes → About → Bool → Said → Row
to_sender tag prefix about elsewhere said = record {
  tag = tag;
  prefix = prefix;
  about = about;
  to = to.Sender;
  elsewhere = elsewhere;
  said = Some said;
}

abbrev pub delay_prefix : Bytes
delay_prefix = codes "AVVISO DI MANCATA CONSEGNA PER SUPERAMENTO TEMPO MASSIMO: "

-- ---- the table

-- The row of a kind.
unfoldable pub row_of : Kind → Row
row_of kinds.Acceptance =
    to_sender (codes "acc") (codes "ACCETTAZIONE: ") about.Message false
    (all_well (codes "accettazione") certs.Acceptance true false (codes "Il messaggio e' stato accettato"))
row_of (kinds.NonAcceptance cause) =
    to_sender (codes "nac") (codes "AVVISO DI NON ACCETTAZIONE: ") about.Message false
    (refused (codes "non-accettazione") certs.NonAcceptance (cause_error cause) (cause_word cause)
    (codes "Il messaggio non e' stato accettato"))
row_of kinds.Charge = record {
  tag = codes "pic";
  prefix = codes "PRESA IN CARICO: ";
  about = about.Provider;
  to = to.MessageProvider;
  elsewhere = true;
  said = Some (all_well (codes "presa-in-carico") certs.Charge false false (codes "Il messaggio e' stato preso in carico da "));
}
row_of kinds.Delivery =
    to_sender (codes "avc") (codes "CONSEGNA: ") about.Recipient true
    (all_well (codes "avvenuta-consegna") certs.Delivery true true (codes "Il messaggio e' stato consegnato a "))
row_of (kinds.DeliveryError refusal) =
    to_sender (codes "err") (codes "AVVISO DI MANCATA CONSEGNA: ") about.Recipient true
    (refused (codes "errore-consegna") certs.DeliveryError (refusal_error refusal) (refusal_word refusal)
    (codes "Il messaggio non e' stato consegnato a "))
row_of kinds.VirusFound = record {
  tag = codes "vir";
  prefix = codes "PROBLEMA DI SICUREZZA: ";
  about = about.Recipient;
  to = to.MessageProvider;
  elsewhere = true;
  said = Some virus_found;
}
row_of kinds.Warning =
    to_sender (codes "pre") delay_prefix about.Recipient false
    (delayed (codes "12 ore") (codes "Entro 12 ore non vi e' notizia di consegna a "))
row_of kinds.Notice =
    to_sender (codes "man") delay_prefix about.Recipient false
    (delayed (codes "24 ore") (codes "Entro 24 ore non vi e' notizia di consegna a "))
row_of kinds.LateNotice =
    to_sender (codes "man") delay_prefix about.Recipient false
    (delayed (codes "oltre 24 ore") (codes "Oltre 24 ore non vi e' notizia di consegna a "))
row_of kinds.Ack = record {
  tag = codes "ris";
  prefix = codes "RISCONTRO";
  about = about.Recipient;
  to = to.RecipientProvider;
  elsewhere = true;
  said = None;
}

-- The kinds without a cause.
abbrev pub other_kinds : List Kind
other_kinds =
    kinds.Acceptance ∷ kinds.Charge ∷ kinds.Delivery ∷ kinds.DeliveryError refusals.NoMailbox
    ∷ kinds.DeliveryError refusals.MailboxFull ∷ kinds.DeliveryError refusals.Virus ∷ kinds.VirusFound ∷ kinds.Warning
    ∷ kinds.Notice ∷ kinds.LateNotice ∷ kinds.Ack ∷ []

-- All kinds, each once.
abbrev pub all_kinds : List Kind
all_kinds = map kinds.NonAcceptance all_causes ++ other_kinds
