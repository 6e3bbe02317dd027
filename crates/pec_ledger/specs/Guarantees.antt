-- What follows for the users of certified mail from journals that are Fit: `OneOutcome`, `OneDelivery`,
-- `NoReceiptMissing` and `NoticeByTheDay`. RFC 6109, sections 3.1 to 3.4, and DPR 68/2005, article 8.
use Rattle.std.specs.Prelude.{◌≡◌, ◌≢◌, ℕ, ◌+◌, ◌≤◌, Bool, true, false, ◌&&◌, List, [], ◌∷◌, ◌++◌, All, Some, None}
use Rattle.pec_types.specs.Bytes.{Bytes}
use Rattle.pec_types.specs.Message.{Id}
use Rattle.pec_types.specs.declared.limits.TheConstants.{LATE_AFTER}
use Rattle.pec_types.specs.declared.messages.Decision.{Decision}
use Rattle.pec_types.specs.declared.messages.Decision.TheVariants.{Placed, Refused}
use Rattle.pec_types.specs.declared.receipts.Kind.{Kind}
use Rattle.pec_types.specs.declared.receipts.Kind.TheVariants as kinds
use Rattle.pec_records.specs.declared.entries.Entry.{Entry}
use Rattle.pec_records.specs.declared.entries.Entry.TheVariants as entries
use Rattle.pec_ledger.specs.Along.{times}
use Rattle.pec_ledger.specs.Half.{Fate, Half, Item, Known, Posted, EnvelopeItem, ReceiptItem, AnomalyItem}
use Rattle.pec_ledger.specs.Ledger.{IsDecidedSo, Journals, accepted_in, ledger}
use Rattle.pec_ledger.specs.Lookups.{Accepted, HasPair, accepted_at, archive, is_acked, known_of, mailbox}
use Rattle.pec_ledger.specs.Pairs.{Pair, pair_of, same_id, same_pair}
use Rattle.pec_ledger.specs.Steps.{half}
use Rattle.pec_ledger.specs.Trade.{Trade}

-- ---- items of a kind

-- a receipt of delivery or a notice of error
abbrev pub is_outcome : Kind → Bool
is_outcome kinds.Delivery = true
is_outcome (kinds.DeliveryError refusal) = true
is_outcome _ = false

-- a notice that nothing is known, late or not
abbrev pub is_notice_kind : Kind → Bool
is_notice_kind kinds.Notice = true
is_notice_kind kinds.LateNotice = true
is_notice_kind _ = false

-- the item is a receipt or notice on this pair, of a kind that is looked for
abbrev pub is_receipt_of : (Kind → Bool) → Pair → Item → Bool
is_receipt_of test pair (ReceiptItem kind id (Some recipient) moment) = test kind && same_pair pair (pair_of id recipient)
is_receipt_of test pair (ReceiptItem kind id None moment) = false
is_receipt_of test pair (EnvelopeItem id) = false
is_receipt_of test pair (AnomalyItem moment) = false

-- The item is an outcome receipt of the pair.
abbrev pub is_outcome_of : Pair → Posted → Bool
is_outcome_of pair posted = is_receipt_of is_outcome pair posted.item

-- The item is a notice on the pair.
abbrev pub is_notice_on : Pair → Posted → Bool
is_notice_on pair posted = is_receipt_of is_notice_kind pair posted.item

-- the item, wherever it was placed, is the envelope of this message
abbrev pub is_envelope_item : Id → Item → Bool
is_envelope_item id (EnvelopeItem other) = same_id id other
is_envelope_item id (ReceiptItem kind other recipient moment) = false
is_envelope_item id (AnomalyItem moment) = false

-- The item is an envelope of the message.
abbrev pub is_envelope_of : Id → Posted → Bool
is_envelope_of id posted = is_envelope_item id posted.item

-- ---- counts

-- the message went into the recipient's mailbox
abbrev pub is_placed : Decision → Bool
is_placed Placed = true
is_placed (Refused refusal) = false

-- how often a provider decided what becomes of a pair
abbrev pub times_decided : Half → Pair → ℕ
times_decided half pair = times (λ (fate : Fate). same_pair pair fate.pair) half.decided

-- how often a provider learned the outcome of a pair
abbrev pub times_known : Half → Pair → ℕ
times_known half pair = times (λ (known : Known). same_pair pair known.pair) half.known

-- how often a provider placed the message of a pair in the recipient's mailbox
abbrev pub times_placed : Half → Pair → ℕ
times_placed half pair = times (λ (fate : Fate). same_pair pair fate.pair && is_placed fate.decision) half.decided

-- How many items of an account, in its mailbox and its archive together, pass a test.
abbrev pub times_held : (Posted → Bool) → Half → Bytes → ℕ
times_held test half account = times test (mailbox half account) + times test (archive half account)

module _ (trade : Trade) (journals : Journals) where
  -- A pair is decided at most once and known at most once; a known outcome is the decided one; the sender's mailbox and
  -- archive together hold exactly one outcome receipt of each known pair and none of another, and no other account of
  -- the provider holds one.
  pub record OneOutcome : Type 0 where
    pub decided_once : (provider : ℕ) (pair : Pair) → times_decided (ledger trade journals provider) pair ≤ 1
    pub known_once : (provider : ℕ) (pair : Pair) → times_known (ledger trade journals provider) pair ≤ 1
    pub known_decided : (provider : ℕ)
        → All (λ (known : Known). IsDecidedSo trade journals known.pair known.decision known.decided) (ledger trade journals provider).known
    pub receipts : (provider : ℕ) (pair : Pair) (message : Accepted) → accepted_at (ledger trade journals provider) pair.id.number ≡ Some message
        → times_held (is_outcome_of pair) (ledger trade journals provider) message.sender ≡ times_known (ledger trade journals provider) pair
    pub elsewhere : (provider : ℕ) (pair : Pair) (message : Accepted) (account : Bytes)
        → accepted_at (ledger trade journals provider) pair.id.number ≡ Some message → account ≢ message.sender
        → times_held (is_outcome_of pair) (ledger trade journals provider) account ≡ 0

  -- A recipient's mailbox and archive together hold exactly one envelope of a message where the pair is decided Placed,
  -- and none otherwise.
  pub record OneDelivery : Type 0 where
    pub envelopes : (provider : ℕ) (pair : Pair)
        → times_held (is_envelope_of pair.id) (ledger trade journals provider) pair.recipient
        ≡ times_placed (ledger trade journals provider) pair
    pub once : (provider : ℕ) (pair : Pair)
        → times_held (is_envelope_of pair.id) (ledger trade journals provider) pair.recipient ≤ 1

  -- The pair is one of an accepted message, and its receipt of delivery or error is in the sender's mailbox or archive,
  -- once.
  pub record HasReceipt (pair : Pair) : Type 0 where
    pub message : Accepted
    pub accepted : accepted_in trade journals pair.id ≡ Some message
    pub receipt : times_held (is_outcome_of pair) (ledger trade journals pair.id.provider) message.sender ≡ 1

  -- Of each pair of which a provider was told that its receipt has arrived, the sender's mailbox or archive holds that
  -- receipt.
  pub record NoReceiptMissing : Type 0 where
    pub receipt : (provider : ℕ) (pair : Pair) → is_acked (ledger trade journals provider) pair ≡ true → HasReceipt pair

  -- After a clock call, each pair that the provider accepted 24 hours before or earlier, and of which nothing is known,
  -- has a notice in the sender's mailbox or archive.
  pub record NoticeByTheDay : Type 0 where
    pub notice : (provider : ℕ) (front : List Entry) (now : ℕ) (back : List Entry)
        → journals provider ≡ front ++ entries.Ticked now ∷ back → (pair : Pair) (message : Accepted)
        → pair.id.provider ≡ provider
        → accepted_at (half trade provider (front ++ entries.Ticked now ∷ [])) pair.id.number ≡ Some message
        → HasPair trade message pair.recipient → message.moment + LATE_AFTER ≤ now
        → known_of (half trade provider (front ++ entries.Ticked now ∷ [])) pair ≡ None
        → 1 ≤ times_held (is_notice_on pair) (half trade provider (front ++ entries.Ticked now ∷ [])) message.sender
