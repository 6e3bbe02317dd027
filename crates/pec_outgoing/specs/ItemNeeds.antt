-- Of which entry an item is composed: its number, `needed_item`; and that an entry is what the item is composed of:
-- `ServesItem`. The item is one of a mailbox or of an archive. RFC 6109, section 3, within this project's profile.
use Rattle.std.specs.Prelude.{◌≡◌, ℕ, IsTrue, Option, Some, slice_get}
use Rattle.std.specs.Option.{option_map}
use Rattle.pec_types.specs.Bytes.{Bytes}
use Rattle.pec_types.specs.Message.{Id}
use Rattle.pec_types.specs.declared.messages.Refusal.TheVariants as refusals
use Rattle.pec_types.specs.declared.receipts.Kind.{Kind}
use Rattle.pec_types.specs.declared.receipts.Kind.TheVariants as kinds
use Rattle.pec_records.specs.declared.entries.Entry.{Entry}
use Rattle.pec_ledger.specs.Half.{AnomalyItem, EnvelopeItem, Half, Item, Message, Posted, ReceiptItem, Taken}
use Rattle.pec_ledger.specs.Items.{refusal_by}
use Rattle.pec_ledger.specs.Lookups.{Accepted, accepted_at, taken_of}
use Rattle.pec_ledger.specs.Trade.{Trade}
use Rattle.pec_outgoing.specs.Entries.{anomaly_in, is_of_row, learned_in, took_in}
use Rattle.pec_outgoing.specs.Needs.{HoldsMessage, receipt_on}

-- An item for which a half has what it needs, with the number of the entry by which it was placed, or with the row of
-- which it is composed beside an entry.
pub data Wanted : Type 0 where
  EnvelopeWanted : (id : Id) (row : Taken) → Wanted
  OutcomeWanted : (number : ℕ) (id : Id) (recipient : Option Bytes) → Wanted
  RefusalWanted : (number : ℕ) (id : Id) (row : Option Message) → Wanted
  ReceiptWanted : (kind : Kind) (id : Id) (recipient : Option Bytes) (moment : ℕ) (row : Accepted) → Wanted
  AnomalyWanted : (number : ℕ) (moment : ℕ) → Wanted

module _ (half : Half) where
  abbrev pub receipt_wanted : ℕ → Kind → Id → Option Bytes → ℕ → Option Wanted
  receipt_wanted number kinds.Delivery id recipient moment = Some (OutcomeWanted number id recipient)
  receipt_wanted number (kinds.DeliveryError refusals.NoMailbox) id recipient moment =
      Some (OutcomeWanted number id recipient)
  receipt_wanted number (kinds.DeliveryError refusals.MailboxFull) id recipient moment =
      Some (OutcomeWanted number id recipient)
  receipt_wanted number (kinds.NonAcceptance cause) id recipient moment =
      Some (RefusalWanted number id (slice_get half.messages id.number))
  receipt_wanted number kind id recipient moment =
      option_map (ReceiptWanted kind id recipient moment) (accepted_at half id.number)

  abbrev pub item_wanted : ℕ → Item → Option Wanted
  item_wanted number (EnvelopeItem id) = option_map (EnvelopeWanted id) (taken_of half id)
  item_wanted number (ReceiptItem kind id recipient moment) = receipt_wanted number kind id recipient moment
  item_wanted number (AnomalyItem moment) = Some (AnomalyWanted number moment)

  -- what the half has for an item that was placed
  abbrev pub posted_wanted : Posted → Option Wanted
  posted_wanted posted = item_wanted posted.entry posted.item

-- that by which a message was taken, the entry of an own message, or that by which the item was placed
abbrev pub number_wanted : Wanted → ℕ
number_wanted (EnvelopeWanted id row) = row.entry
number_wanted (OutcomeWanted number id recipient) = number
number_wanted (RefusalWanted number id row) = number
number_wanted (ReceiptWanted kind id recipient moment row) = row.entry
number_wanted (AnomalyWanted number moment) = number

-- The number of the entry of which an item is composed: none where the half doesn't have what it needs.
unfoldable pub needed_item : Half → Posted → Option ℕ
needed_item half posted = option_map number_wanted (posted_wanted half posted)

module _ (trade : Trade) (me : ℕ) where
  -- The entry is what the item is composed of, and these are the bytes.
  abbrev pub IsShown : Wanted → Entry → Bytes → Type 0
  IsShown (EnvelopeWanted id row) entry text = took_in id entry ≡ Some text
  IsShown (OutcomeWanted number id recipient) entry text = learned_in id recipient entry ≡ Some text
  IsShown (RefusalWanted number id row) entry text =
      IsTrue (is_of_row row entry) × (refusal_by trade id entry ≡ Some text)
  IsShown (ReceiptWanted kind id recipient moment row) entry text =
      (original : Bytes) × HoldsMessage trade row entry original
      × (receipt_on trade kind id me moment recipient original ≡ text)
  IsShown (AnomalyWanted number moment) entry text =
      option_map (trade.anomaly_text me number moment) (anomaly_in entry) ≡ Some text

  -- The entry is what this item is composed of: an envelope of an entry by which its message was taken; a receipt of
  -- delivery or of an error, but for a virus, of one by which the outcome for its recipient was learned; a notice of
  -- non-acceptance of one by which a message wasn't accepted, at the row's moment, from its sender and along a path of at
  -- least one address; an anomaly of one that holds an anomaly; and any other receipt of the entry by which the message was
  -- accepted, at the row's moment, from its sender and with its facts.
  pub record ServesItem (half : Half) (posted : Posted) (entry : Entry) : Type 0 where
    pub wanted : Wanted
    pub has : posted_wanted half posted ≡ Some wanted
    pub text : Bytes
    pub shown : IsShown wanted entry text

  -- These are the item's bytes, composed of this entry, which is what the item is composed of.
  pub record ShownOf (half : Half) (posted : Posted) (entry : Entry) (text : Bytes) : Type 0 where
    pub wanted : Wanted
    pub has : posted_wanted half posted ≡ Some wanted
    pub shown : IsShown wanted entry text
