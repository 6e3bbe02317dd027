-- The bytes of an item: `item_text`, from the provider's own journal alone. An envelope shows what the Took entry of
-- its id holds, and a receipt of delivery or error what its Learned entry holds. All others are composed from entries,
-- the delivery error of a virus too: of it the recipient's provider told this one, and this one tells the sender. RFC
-- 6109, section 3, within this project's profile.
use Rattle.std.specs.Prelude.{◌≡◌, ℕ, List, Contains, slice_get, Option, Some, None}
use Rattle.std.specs.Option.{option_and_then, option_map}
use Rattle.pec_types.specs.Bytes.{Bytes}
use Rattle.pec_types.specs.Message.{Id}
use Rattle.pec_types.specs.declared.messages.Refusal.TheVariants as refusals
use Rattle.pec_types.specs.declared.receipts.Kind.{Kind}
use Rattle.pec_types.specs.declared.receipts.Kind.TheVariants as kinds
use Rattle.pec_records.specs.declared.entries.Entry.{Entry}
use Rattle.pec_records.specs.declared.entries.Entry.TheVariants as entries
use Rattle.pec_ledger.specs.Half.{Item, Posted, Taken, EnvelopeItem, ReceiptItem, AnomalyItem}
use Rattle.pec_ledger.specs.Ledger.{Journals, body_at, ledger}
use Rattle.pec_ledger.specs.Lookups.{Accepted, accepted_at, taken_of}
use Rattle.pec_ledger.specs.Steps.{half}
use Rattle.pec_ledger.specs.Trade.{Trade}

-- what the entry of a message that was taken holds
abbrev pub taken_body : List Entry → Taken → Option Bytes
taken_body journal taken = body_at journal taken.entry

-- what the entry of an accepted message holds: its original
abbrev pub accepted_body : List Entry → Accepted → Option Bytes
accepted_body journal message = body_at journal message.entry

module _ (trade : Trade) where
  -- the notice of an entry by which a message wasn't accepted
  abbrev pub refusal_by : Id → Entry → Option Bytes
  refusal_by id (entries.NotAccepted moment sender cause path message) =
      Some (trade.refusal_text id moment sender cause path message)
  refusal_by id _ = None

  -- what is composed of an original
  abbrev pub composed : Kind → Id → ℕ → ℕ → Option Bytes → Bytes → Bytes
  composed kind id by moment recipient original =
      trade.receipt_text (record { kind = kind; id = id; by = by; moment = moment; recipient = recipient }) original

  module _ (provider : ℕ) where
    -- the original of this provider's message of a number, where it was accepted
    abbrev pub original_at : List Entry → ℕ → Option Bytes
    original_at journal number = option_and_then (accepted_body journal) (accepted_at (half trade provider journal) number)

    -- the bytes of a receipt or notice, which came into the mailbox by the entry of this number, from 0
    abbrev pub receipt_of : List Entry → ℕ → Kind → Id → Option Bytes → ℕ → Option Bytes
    receipt_of journal entry kinds.Delivery id recipient moment = body_at journal entry
    receipt_of journal entry (kinds.DeliveryError refusals.NoMailbox) id recipient moment = body_at journal entry
    receipt_of journal entry (kinds.DeliveryError refusals.MailboxFull) id recipient moment = body_at journal entry
    receipt_of journal entry (kinds.NonAcceptance cause) id recipient moment =
        option_and_then (refusal_by id) (slice_get journal entry)
    receipt_of journal entry kind id recipient moment =
        option_map (composed kind id provider moment recipient) (original_at journal id.number)

    -- the bytes of any item, which came by the entry of this number
    abbrev pub text_by : List Entry → ℕ → Item → Option Bytes
    text_by journal entry (EnvelopeItem id) = option_and_then (taken_body journal) (taken_of (half trade provider journal) id)
    text_by journal entry (ReceiptItem kind id recipient moment) = receipt_of journal entry kind id recipient moment
    text_by journal entry (AnomalyItem moment) = option_map (trade.anomaly_text provider entry moment) (body_at journal entry)

    -- The bytes of an item.
    unfoldable pub item_text : List Entry → Posted → Option Bytes
    item_text journal posted = text_by journal posted.entry posted.item

  -- These are the bytes of an item of some provider.
  pub record IsItemText (journals : Journals) (bytes : Bytes) : Type 0 where
    pub provider : ℕ
    pub posted : Posted
    pub placed : Contains (ledger trade journals provider).items posted
    pub text : item_text provider (journals provider) posted ≡ Some bytes
