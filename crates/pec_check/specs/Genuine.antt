-- Which saved messages are genuine letters, and what those say: `IsGenuine`; and why another is none: `IsRefused`, both
-- at the end. A message is judged as an envelope where its head says so, and otherwise as a receipt, by what these are
-- seen as (RFC 6109, section 3, for the letters); then the provider that sealed it has to be the right one. What is
-- genuine is this project's profile.
use Rattle.std.specs.Prelude.{◌≡◌, ◌≢◌, ◌⊎◌, ℕ, List, Bool, true, false, Option, Some, None, Ok, Err}
use Rattle.std.specs.Option.{option_and_then}
use Rattle.std.specs.Result.{result_ok}
use Rattle.pec_types.specs.Bytes.{Bytes}
use Rattle.pec_types.specs.declared.messages.Refusal.TheVariants as refusals
use Rattle.pec_types.specs.declared.receipts.Kind.{Kind}
use Rattle.pec_types.specs.declared.receipts.Kind.TheVariants as kinds
use Rattle.pec_heads.specs.FactsOfHeads.{first_value}
use Rattle.pec_bodies.specs.PartsReading.{parts_of}
use Rattle.pec_directory.specs.Directory.{Provider, home_of}
use Rattle.pec_seal.specs.Seals.{Seals}
use Rattle.pec_letter_parts.specs.Contents.{certificate_name}
use Rattle.pec_letter_parts.specs.Headings.{marking_name}
use Rattle.pec_letter_parts.specs.Letters.{Headed, IsHeaded, IsUnheaded, body_of, is_value}
use Rattle.pec_letter_parts.specs.declared.headings.Marking.TheVariants as markings
use Rattle.pec_letters.specs.Envelopes.{envelope_word}
use Rattle.pec_letters.specs.Seen.{Seen as EnvelopeSeen}
use Rattle.pec_letters.specs.SeenReading.{view as envelope_view}
use Rattle.pec_receipts.specs.Seen.{reply_of}
use Rattle.pec_receipts.specs.SeenReading.{view as receipt_view}
use Rattle.pec_receipts.specs.declared.reading.ReceiptView.{ReceiptView}
use Rattle.pec_check.specs.declared.checking.CheckFault.{CheckFault}
use Rattle.pec_check.specs.declared.checking.CheckFault.TheVariants.{Letter, WrongProvider}
use Rattle.pec_check.specs.declared.reports.Report.{Report}
use Rattle.pec_check.specs.declared.reports.SavedKind.TheVariants.{Envelope, Receipt}
use Rattle.pec_check.specs.declared.sealing.Sealing.{Sealing}
use Rattle.pec_check.specs.declared.sealing.Sealing.TheVariants.{Anyone, RecipientsHome, MessagesProvider}

-- A head says that it is an envelope's: its first value of this name is this one.
abbrev pub is_for_envelope : Headed → Bool
is_for_envelope read = is_value envelope_word (first_value (marking_name markings.Transport) read.head)

-- ---- what is reported

abbrev pub certificate_by : Headed → Option Bytes → Option Bytes
certificate_by read None = option_and_then (body_of certificate_name) (result_ok (parts_of read.head read.body))
certificate_by read (Some reply) = None

-- the certification text behind a head; an acknowledgement, which has a head alone, has none
abbrev pub certificate_in : Headed → Option Bytes
certificate_in read = certificate_by read (reply_of read)

abbrev pub envelope_report : Headed → EnvelopeSeen → Report
envelope_report read seen = record {
  kind = Envelope;
  id = seen.id;
  by = read.sealer;
  moment = seen.moment;
  recipient = None;
  cert = certificate_in read;
}

abbrev pub receipt_report : Headed → ReceiptView → Report
receipt_report read seen = record {
  kind = Receipt seen.kind;
  id = seen.id;
  by = seen.by;
  moment = seen.moment;
  recipient = seen.recipient;
  cert = certificate_in read;
}

-- ---- the right provider

-- Who has to seal a receipt: a line for each kind. What was decided of a message is for the recipient's home to say, to the
-- sender or of a virus to the message's own provider; that a virus kept it from being placed is for this one to say.
abbrev pub sealing_of : Kind → Sealing
sealing_of kinds.Acceptance = Anyone
sealing_of (kinds.NonAcceptance cause) = Anyone
sealing_of kinds.Charge = Anyone
sealing_of kinds.Delivery = RecipientsHome
sealing_of (kinds.DeliveryError refusals.NoMailbox) = RecipientsHome
sealing_of (kinds.DeliveryError refusals.MailboxFull) = RecipientsHome
sealing_of (kinds.DeliveryError refusals.Virus) = MessagesProvider
sealing_of kinds.VirusFound = RecipientsHome
sealing_of kinds.Warning = Anyone
sealing_of kinds.Notice = Anyone
sealing_of kinds.LateNotice = Anyone
sealing_of kinds.Ack = Anyone

-- the provider is home to the recipient, who is named
abbrev pub IsHome : List Provider → Option Bytes → ℕ → Type 0
IsHome providers None provider = ⊥
IsHome providers (Some recipient) provider = home_of providers recipient ≡ Some provider

-- the provider that sealed it is one that may
abbrev pub MaySeal : List Provider → ReceiptView → Sealing → Type 0
MaySeal providers seen Anyone = Unit {0}
MaySeal providers seen RecipientsHome = IsHome providers seen.recipient seen.by
MaySeal providers seen MessagesProvider = seen.by ≡ seen.id.provider

-- another provider had to seal it
abbrev pub HadToSeal : List Provider → ReceiptView → Sealing → ℕ → Type 0
HadToSeal providers seen Anyone provider = ⊥
HadToSeal providers seen RecipientsHome provider = IsHome providers seen.recipient provider × (provider ≢ seen.by)
HadToSeal providers seen MessagesProvider provider = (provider ≡ seen.id.provider) × (provider ≢ seen.by)

-- ---- genuine or not

module _ (seals : Seals) (providers : List Provider) (text : Bytes) where
  -- what a text that opened with this head says, as an envelope or as a receipt
  abbrev pub Says : Headed → Bool → Report → Type 0
  Says read true report =
      (seen : EnvelopeSeen) × ((envelope_view seals providers text ≡ Ok seen) × (report ≡ envelope_report read seen))
  Says read false report =
      (seen : ReceiptView) × ((receipt_view seals providers text ≡ Ok seen)
      × (MaySeal providers seen (sealing_of seen.kind) × (report ≡ receipt_report read seen)))

  -- why it says nothing: it isn't seen as what its head says, or another provider than the sealing one had to seal it
  abbrev pub SaysNothing : Headed → Bool → CheckFault → Type 0
  SaysNothing read true (Letter fault) = envelope_view seals providers text ≡ Err fault
  SaysNothing read true (WrongProvider provider) = ⊥
  SaysNothing read false (Letter fault) = receipt_view seals providers text ≡ Err fault
  SaysNothing read false (WrongProvider provider) =
      (seen : ReceiptView) × ((receipt_view seals providers text ≡ Ok seen)
      × HadToSeal providers seen (sealing_of seen.kind) provider)

  -- no head is read of the text
  abbrev pub OpensNot : CheckFault → Type 0
  OpensNot (Letter fault) = IsUnheaded seals text fault
  OpensNot (WrongProvider provider) = ⊥

  -- The text is a genuine letter, and says this.
  abbrev pub IsGenuine : Report → Type 0
  IsGenuine report = (read : Headed) × (IsHeaded seals text read × Says read (is_for_envelope read) report)

  -- The text is none, for this reason.
  abbrev pub IsRefused : CheckFault → Type 0
  IsRefused fault =
      OpensNot fault ⊎ ((read : Headed) × (IsHeaded seals text read × SaysNothing read (is_for_envelope read) fault))
