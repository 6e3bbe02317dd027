-- What an entry changes: `adds`, list by list, and `half`, what a provider's entries come to. Of all entries only those
-- that say so change a list. RFC 6109, sections 3.1 to 3.4, within this project's profile.
use Rattle.std.specs.Prelude.{ℕ, ◌+◌, List, [], ◌∷◌, length, map, fold, Some, None}
use Rattle.pec_types.specs.Bytes.{Bytes}
use Rattle.pec_types.specs.Message.{Id}
use Rattle.pec_types.specs.declared.messages.Decision.{Decision}
use Rattle.pec_types.specs.declared.messages.Decision.TheVariants.{Placed}
use Rattle.pec_types.specs.declared.receipts.Kind.{Kind}
use Rattle.pec_types.specs.declared.receipts.Kind.TheVariants as kinds
use Rattle.pec_types.specs.declared.limits.Due.{Due}
use Rattle.pec_types.specs.declared.limits.Due.TheVariants as dues
use Rattle.pec_records.specs.Entry.{entry_text}
use Rattle.pec_records.specs.declared.entries.Entry.{Entry}
use Rattle.pec_records.specs.declared.entries.Entry.TheVariants as entries
use Rattle.pec_ledger.specs.Half.{Half, Adds, Message, Charge, Mark, Known, Taken, Fate, Move, Posted, EnvelopeItem, ReceiptItem, AnomalyItem, empty, joined}
use Rattle.pec_ledger.specs.Lookups.{at_home, receipt_kind, submitter}
use Rattle.pec_ledger.specs.Marks.{marks_from}
use Rattle.pec_ledger.specs.Pairs.{Pair, id_of, pair_of}
use Rattle.pec_ledger.specs.Trade.{Trade}

-- the moment of an entry, in seconds; the first entry of a journal has none
abbrev pub moment_of : Entry → ℕ
moment_of (entries.Start provider digest) = 0
moment_of (entries.Accepted moment sender message) = moment
moment_of (entries.NotAccepted moment sender cause path message) = moment
moment_of (entries.Took moment id message) = moment
moment_of (entries.Decided moment id recipient decision) = moment
moment_of (entries.Charged moment id by) = moment
moment_of (entries.Learned moment id recipient decision decided message) = moment
moment_of (entries.Acked moment id recipient) = moment
moment_of (entries.Ticked moment) = moment
moment_of (entries.Anomaly moment accounts message) = moment
moment_of (entries.StartTwo provider digest) = 0
moment_of (entries.Upgraded moment) = moment
moment_of (entries.Archived moment account place) = moment

-- the version that a journal has from an entry on, if the entry says one, and else 0
abbrev pub version_by : Entry → ℕ
version_by (entries.Start provider digest) = 1
version_by (entries.StartTwo provider digest) = 2
version_by (entries.Upgraded moment) = 2
version_by _ = 0

-- how many bytes longer an entry makes its journal: its own, a gate and a length
unfoldable pub size_of : Entry → ℕ
size_of entry = 5 + length (entry_text entry)

-- ---- lists that an entry alone says

-- the charge that an entry notes, if it notes one
abbrev pub charged_by : Entry → List Charge
charged_by (entries.Charged moment id by) = record { id = id; by = by; moment = moment } ∷ []
charged_by _ = []

-- the outcome that it learned, if it learned one
abbrev pub known_by : Entry → List Known
known_by (entries.Learned moment id recipient decision decided message) =
    record { pair = pair_of id recipient; decision = decision; decided = decided; moment = moment } ∷ []
known_by _ = []

-- what it decided on a pair, if it did
abbrev pub decided_by : Entry → List Fate
decided_by (entries.Decided moment id recipient decision) =
    record { pair = pair_of id recipient; decision = decision; moment = moment } ∷ []
decided_by _ = []

-- the pair whose receipt has arrived, if it says so
abbrev pub acked_by : Entry → List Pair
acked_by (entries.Acked moment id recipient) = pair_of id recipient ∷ []
acked_by _ = []

-- the item that it moves into an archive, if it moves one
abbrev pub moves_by : Entry → List Move
moves_by (entries.Archived moment account place) = record { account = account; place = place } ∷ []
moves_by _ = []

-- ---- items

-- the notice that a mark stands for; no mark stands for nothing due
abbrev pub kind_of_due : Due → Kind
kind_of_due dues.Nothing = kinds.Charge
kind_of_due dues.Warning = kinds.Warning
kind_of_due dues.Notice = kinds.Notice
kind_of_due dues.LateNotice = kinds.LateNotice

-- a warning or notice, as it is placed in the mailbox of the message's sender
abbrev pub notice_by : Half → Mark → Posted
notice_by half mark = record {
  account = submitter half mark.pair.id.number;
  item = ReceiptItem (kind_of_due mark.due) mark.pair.id (Some mark.pair.recipient) mark.moment;
  entry = half.entries;
}

-- a decision places the envelope, or it doesn't
abbrev pub placed_by : Half → Id → Bytes → Decision → List Posted
placed_by half id recipient Placed = record { account = recipient; item = EnvelopeItem id; entry = half.entries } ∷ []
placed_by half id recipient _ = []

-- an anomaly, as it is placed in the mailbox of an account
abbrev pub anomaly_by : Half → ℕ → Bytes → Posted
anomaly_by half moment account = record { account = account; item = AnomalyItem moment; entry = half.entries }

module _ (trade : Trade) (provider : ℕ) where
  -- the message of which an entry says that it was accepted or refused
  abbrev pub messages_by : Half → Entry → List Message
  messages_by half (entries.Accepted moment sender message) = record {
    moment = moment;
    sender = sender;
    facts = trade.facts message;
    cause = None;
    path = [];
    entry = half.entries;
  } ∷ []
  messages_by half (entries.NotAccepted moment sender cause path message) =
      record { moment = moment; sender = sender; facts = None; cause = Some cause; path = path; entry = half.entries } ∷ []
  messages_by half _ = []

  -- the message of which it says that it was taken, for those recipients that are at home here
  abbrev pub taken_by : Half → Entry → List Taken
  taken_by half (entries.Took moment id message) = record {
    id = id;
    moment = moment;
    recipients = at_home trade provider (trade.envelope_recipients message);
    entry = half.entries;
  } ∷ []
  taken_by half _ = []

  -- the warnings and notices that it sets, if it is a clock call
  abbrev pub marks_by : Half → Entry → List Mark
  marks_by half (entries.Ticked moment) = marks_from trade provider half moment 0 half.messages
  marks_by half _ = []

  -- what it places in mailboxes: receipts and notices, an envelope, or an anomaly with each account
  abbrev pub items_by : Half → Entry → List Posted
  items_by half (entries.Accepted moment sender message) = record {
    account = sender;
    item = ReceiptItem kinds.Acceptance (id_of provider (length half.messages)) None moment;
    entry = half.entries;
  } ∷ []
  items_by half (entries.NotAccepted moment sender cause path message) = record {
    account = sender;
    item = ReceiptItem (kinds.NonAcceptance cause) (id_of provider (length half.messages)) None moment;
    entry = half.entries;
  } ∷ []
  items_by half (entries.Decided moment id recipient decision) = placed_by half id recipient decision
  items_by half (entries.Learned moment id recipient decision decided message) = record {
    account = submitter half id.number;
    item = ReceiptItem (receipt_kind decision) id (Some recipient) moment;
    entry = half.entries;
  } ∷ []
  items_by half (entries.Ticked moment) = map (notice_by half) (marks_from trade provider half moment 0 half.messages)
  items_by half (entries.Anomaly moment accounts message) = map (anomaly_by half moment) accounts
  items_by half _ = []

  -- What an entry adds to a half.
  abbrev pub adds : Half → Entry → Adds
  adds half entry = record {
    moment = moment_of entry;
    version = version_by entry;
    size = size_of entry;
    messages = messages_by half entry;
    charged = charged_by entry;
    marks = marks_by half entry;
    known = known_by entry;
    taken = taken_by half entry;
    decided = decided_by entry;
    acked = acked_by entry;
    items = items_by half entry;
    moves = moves_by entry;
  }

  -- The half after an entry.
  unfoldable pub step : Half → Entry → Half
  step half entry = joined half (adds half entry)

  -- What a provider's entries come to.
  unfoldable pub half : List Entry → Half
  half entries = fold step empty entries
