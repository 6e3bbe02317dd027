-- What the tables of pec_points see of a provider's journal: of a message in a frame (`arrived_at`), and of a recipient
-- (`mailbox_at`); and what is done by the answer of the table of reception (`done_by`). RFC 6109, sections 3.1 to 3.3,
-- within this project's profile.
use Rattle.std.specs.Prelude.{ℕ, Bool, true, false, List, [], ◌∷◌, length, Option, Some, None, is_some}
use Rattle.pec_types.specs.Bytes.{Bytes}
use Rattle.pec_types.specs.Message.{Id}
use Rattle.pec_types.specs.declared.letters.Letter.{Letter}
use Rattle.pec_types.specs.declared.letters.Letter.TheVariants as letters
use Rattle.pec_types.specs.declared.messages.Decision.{Decision}
use Rattle.pec_types.specs.declared.messages.Decision.TheVariants.{Placed, Refused}
use Rattle.pec_types.specs.declared.messages.Refusal.TheVariants as refusals
use Rattle.pec_types.specs.declared.receipts.Kind.{Kind}
use Rattle.pec_types.specs.declared.receipts.Kind.TheVariants as kinds
use Rattle.pec_types.specs.declared.turns.Event.TheVariants as events
use Rattle.pec_records.specs.declared.entries.Entry.{Entry}
use Rattle.pec_records.specs.declared.entries.Entry.TheVariants as entries
use Rattle.pec_points.specs.Decision.{Mailbox}
use Rattle.pec_points.specs.declared.reception.Arrived.{Arrived}
use Rattle.pec_points.specs.declared.reception.Reception.{Reception}
use Rattle.pec_points.specs.declared.reception.Reception.TheVariants.{Take, Charge, Outcome, Ack, Repeat, Anomaly}
use Rattle.pec_ledger.specs.Half.{Half}
use Rattle.pec_ledger.specs.Lookups.{accepted_at, charged_of, counted, decided_of, is_acked, known_of, taken_of}
use Rattle.pec_ledger.specs.Pairs.{pair_of}
use Rattle.pec_ledger.specs.Steps.{half}
use Rattle.pec_ledger.specs.Trade.{Framed, Receipt, Seen, SeenEnvelope, SeenReceipt, Trade}
use Rattle.pec_plays.specs.Reception.{accounts_with_room, envelope_fits, has_pair, has_pairs_at, is_outcome_path, otherwise, same_path}
use Rattle.pec_plays.specs.Steps.{Step, enters, passes}

-- What the decision sees of a recipient, where some screen finds a rule in the message or none does.
unfoldable pub mailbox_at : Trade → ℕ → Half → Bytes → Bool → Mailbox
mailbox_at trade provider half recipient found = record {
  account = trade.is_account provider recipient;
  virus = found;
  count = counted half recipient;
  quota = trade.quota recipient;
}

-- ---- what reception sees

module _ (trade : Trade) (provider : ℕ) (journal : List Entry) (framed : Framed) where
  -- how many accounts in the path have room
  abbrev pub rooms_in : ℕ
  rooms_in = length (accounts_with_room trade provider journal framed.path)

  -- no letter for a provider: only who has room is looked at
  abbrev pub no_letter : Arrived
  no_letter = record {
    letter = None;
    sealer = 0;
    id_provider = 0;
    recipient_home = None;
    path_fits = false;
    row_there = false;
    done = false;
    accounts_with_room = rooms_in;
  }

  -- an envelope: whether its path fits, and whether its message was taken before
  abbrev pub an_envelope : Id → Arrived
  an_envelope id = record {
    letter = Some (letters.Envelope id provider);
    sealer = id.provider;
    id_provider = id.provider;
    recipient_home = None;
    path_fits = envelope_fits trade provider framed;
    row_there = true;
    done = is_some (taken_of (half trade provider journal) id);
    accounts_with_room = rooms_in;
  }

  -- a receipt of taking charge: whether its path fits, its message has pairs there, and it came before
  abbrev pub a_charge : Receipt → Arrived
  a_charge receipt = record {
    letter = Some (letters.Charge receipt.id receipt.by);
    sealer = receipt.by;
    id_provider = receipt.id.provider;
    recipient_home = None;
    path_fits = same_path framed.path (trade.receipts provider ∷ []);
    row_there = has_pairs_at trade receipt.by (accepted_at (half trade provider journal) receipt.id.number);
    done = is_some (charged_of (half trade provider journal) receipt.id receipt.by);
    accounts_with_room = rooms_in;
  }

  -- what tells a decision: whether its path fits, its pair exists, and an outcome is known
  abbrev pub an_outcome : Receipt → Decision → Option Bytes → Arrived
  an_outcome receipt decision None = no_letter
  an_outcome receipt decision (Some recipient) = record {
    letter = Some (letters.Outcome receipt.id recipient);
    sealer = receipt.by;
    id_provider = receipt.id.provider;
    recipient_home = trade.home recipient;
    path_fits = is_outcome_path trade receipt.id decision framed.path (accepted_at (half trade provider journal) receipt.id.number);
    row_there = has_pair trade recipient (accepted_at (half trade provider journal) receipt.id.number);
    done = is_some (known_of (half trade provider journal) (pair_of receipt.id recipient));
    accounts_with_room = rooms_in;
  }

  -- an acknowledgement: whether its path fits, its pair is decided here, and it came before
  abbrev pub an_ack : Receipt → Option Bytes → Arrived
  an_ack receipt None = no_letter
  an_ack receipt (Some recipient) = record {
    letter = Some (letters.Ack receipt.id recipient);
    sealer = receipt.by;
    id_provider = receipt.id.provider;
    recipient_home = trade.home recipient;
    path_fits = same_path framed.path (trade.receipts provider ∷ []);
    row_there = is_some (decided_of (half trade provider journal) (pair_of receipt.id recipient));
    done = is_acked (half trade provider journal) (pair_of receipt.id recipient);
    accounts_with_room = rooms_in;
  }

  -- a receipt, by its kind: acceptances, warnings, notices and the delivery error of a virus are no letters
  abbrev pub a_receipt : Receipt → Kind → Arrived
  a_receipt receipt kinds.Charge = a_charge receipt
  a_receipt receipt kinds.Delivery = an_outcome receipt Placed receipt.recipient
  a_receipt receipt (kinds.DeliveryError refusals.NoMailbox) = an_outcome receipt (Refused refusals.NoMailbox) receipt.recipient
  a_receipt receipt (kinds.DeliveryError refusals.MailboxFull) = an_outcome receipt (Refused refusals.MailboxFull) receipt.recipient
  a_receipt receipt kinds.VirusFound = an_outcome receipt (Refused refusals.Virus) receipt.recipient
  a_receipt receipt kinds.Ack = an_ack receipt receipt.recipient
  a_receipt receipt _ = no_letter

  -- a message, by what is seen in it
  abbrev pub arrived_by : Option Seen → Arrived
  arrived_by None = no_letter
  arrived_by (Some (SeenEnvelope id moment original)) = an_envelope id
  arrived_by (Some (SeenReceipt receipt)) = a_receipt receipt receipt.kind

  -- What the table of reception sees of the message in a frame.
  unfoldable pub arrived_at : Arrived
  arrived_at = arrived_by (trade.view framed.message)

-- ---- what is done by an answer

-- what a receipt of this kind says was decided
abbrev pub decision_of_kind : Kind → Decision
decision_of_kind (kinds.DeliveryError refusal) = Refused refusal
decision_of_kind kinds.VirusFound = Refused refusals.Virus
decision_of_kind _ = Placed

-- what the receipt that is seen says was decided
abbrev pub decision_seen : Option Seen → Decision
decision_seen (Some (SeenReceipt receipt)) = decision_of_kind receipt.kind
decision_seen _ = Placed

-- the moment that it states, in seconds
abbrev pub moment_seen : Option Seen → ℕ
moment_seen (Some (SeenReceipt receipt)) = receipt.moment
moment_seen _ = 0

-- what is owed for a letter, new or not: a charge for an envelope, an acknowledgement for an outcome
abbrev pub owed_for : ℕ → Letter → List Letter
owed_for provider (letters.Envelope id to) = letters.Charge id provider ∷ []
owed_for provider (letters.Charge id by) = []
owed_for provider (letters.Outcome id recipient) = letters.Ack id recipient ∷ []
owed_for provider (letters.Ack id recipient) = []

module _ (trade : Trade) (provider now : ℕ) (journal : List Entry) (framed : Framed) where
  -- a new letter, by what is seen of it
  abbrev pub new_letter : Option Seen → Letter → Step
  new_letter seen (letters.Envelope id to) =
      enters trade provider journal (entries.Took now id framed.message) (events.Took id) (owed_for provider (letters.Envelope id to))
  new_letter seen (letters.Charge id by) =
      enters trade provider journal (entries.Charged now id by) (events.Charged id by) (owed_for provider (letters.Charge id by))
  new_letter seen (letters.Outcome id recipient) =
      enters trade provider journal (entries.Learned now id recipient (decision_seen seen) (moment_seen seen) framed.message)
      (events.Learned id recipient (decision_seen seen)) (owed_for provider (letters.Outcome id recipient))
  new_letter seen (letters.Ack id recipient) =
      enters trade provider journal (entries.Acked now id recipient) (events.Acked id recipient) (owed_for provider (letters.Ack id recipient))

  -- what is done by the answer of the table: a new letter is noted, a known one is told as a repeat
  abbrev pub done_on : Option Seen → Reception → Option Letter → Step
  done_on seen Take (Some letter) = new_letter seen letter
  done_on seen Charge (Some letter) = new_letter seen letter
  done_on seen Outcome (Some letter) = new_letter seen letter
  done_on seen Ack (Some letter) = new_letter seen letter
  done_on seen Repeat (Some letter) = passes (events.Repeat letter) (owed_for provider letter)
  done_on seen Anomaly letter = otherwise trade provider now journal framed
  done_on seen _ _ = passes events.Dropped []

  -- What is done with the message in a frame, by the answer of the table and the letter that is seen.
  abbrev pub done_by : Reception → Option Letter → Step
  done_by reception letter = done_on (trade.view framed.message) reception letter
