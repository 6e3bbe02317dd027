-- Reception in the words of its table: what a provider does with a frame, row by row (`IsReceived`), beside the
-- function `arrive`. A letter for the provider is new, or it was received before; anything else becomes an anomaly of
-- the accounts in its path that have room, or is dropped. RFC 6109, sections 3.1 to 3.3, within this project's profile.
use Rattle.std.specs.Prelude.{◌≡◌, ◌↔◌, ℕ, ◌<◌, false, true, List, [], ◌∷◌, length, Contains, IsSome, IsTrue, Some, None}
use Rattle.pec_types.specs.Bytes.{Bytes, Path}
use Rattle.pec_types.specs.Message.{Id}
use Rattle.pec_types.specs.declared.letters.Letter.TheVariants as letters
use Rattle.pec_types.specs.declared.messages.Decision.{Decision}
use Rattle.pec_types.specs.declared.receipts.Kind.TheVariants as kinds
use Rattle.pec_types.specs.declared.turns.Event.TheVariants as events
use Rattle.pec_records.specs.declared.entries.Entry.{Entry}
use Rattle.pec_records.specs.declared.entries.Entry.TheVariants as entries
use Rattle.pec_ledger.specs.Along.{AllDiffer}
use Rattle.pec_ledger.specs.Lookups.{Accepted, HasPair, HasPairsAt, accepted_at, at_home, charged_of, decided_of, has_room, is_acked, known_of, outcome_kind, taken_of}
use Rattle.pec_ledger.specs.Pairs.{pair_of}
use Rattle.pec_ledger.specs.Steps.{half}
use Rattle.pec_ledger.specs.Trade.{Framed, Receipt, SeenEnvelope, SeenReceipt, Trade}
use Rattle.pec_plays.specs.Paths.{outcome_path}
use Rattle.pec_plays.specs.Reception.{accounts_with_room}
use Rattle.pec_plays.specs.Steps.{Step, enters, passes}

module _ (trade : Trade) (provider : ℕ) (journal : List Entry) (framed : Framed) where
  -- ---- letters for this provider

  -- An envelope, which the provider of its id sealed: its path is the list of its certified recipients here, of whom
  -- there are some.
  pub record IsEnvelope (id : Id) : Type 0 where
    pub moment : ℕ
    pub original : Bytes
    pub seen : trade.view framed.message ≡ Some (SeenEnvelope id moment original)
    pub path : framed.path ≡ at_home trade provider (trade.envelope_recipients framed.message)
    pub some : 0 < length (at_home trade provider (trade.envelope_recipients framed.message))

  -- A charge that its own provider sealed, for a message of this provider that has pairs there, along the path of the
  -- receipt address.
  pub record IsCharge (receipt : Receipt) : Type 0 where
    pub seen : trade.view framed.message ≡ Some (SeenReceipt receipt)
    pub kind : receipt.kind ≡ kinds.Charge
    pub ours : receipt.id.provider ≡ provider
    pub message : Accepted
    pub accepted : accepted_at (half trade provider journal) receipt.id.number ≡ Some message
    pub pairs : HasPairsAt trade message receipt.by
    pub path : framed.path ≡ trade.receipts provider ∷ []

  -- An outcome that the recipient's provider sealed, of a pair of a message of this provider, along the path of the
  -- sender, or of the receipt address where it tells of a virus.
  pub record IsOutcome (receipt : Receipt) (recipient : Bytes) (decision : Decision) : Type 0 where
    pub seen : trade.view framed.message ≡ Some (SeenReceipt receipt)
    pub kind : receipt.kind ≡ outcome_kind decision
    pub names : receipt.recipient ≡ Some recipient
    pub ours : receipt.id.provider ≡ provider
    pub sealed : trade.home recipient ≡ Some receipt.by
    pub message : Accepted
    pub accepted : accepted_at (half trade provider journal) receipt.id.number ≡ Some message
    pub pair : HasPair trade message recipient
    pub path : framed.path ≡ outcome_path trade receipt.id decision message.sender

  -- An acknowledgement that the provider of the id sealed, of a pair that is decided here, where its recipient is at
  -- home, along the path of the receipt address.
  pub record IsAck (receipt : Receipt) (recipient : Bytes) : Type 0 where
    pub seen : trade.view framed.message ≡ Some (SeenReceipt receipt)
    pub kind : receipt.kind ≡ kinds.Ack
    pub names : receipt.recipient ≡ Some recipient
    pub sealed : receipt.by ≡ receipt.id.provider
    pub home : trade.home recipient ≡ Some provider
    pub decided : IsSome (decided_of (half trade provider journal) (pair_of receipt.id recipient))
    pub path : framed.path ≡ trade.receipts provider ∷ []

  -- The message in the frame is a letter for this provider, of one of the four kinds.
  pub data IsLetter : Type 0 where
    AnEnvelope : (id : Id) → IsEnvelope id → IsLetter
    ACharge : (receipt : Receipt) → IsCharge receipt → IsLetter
    AnOutcome : (receipt : Receipt) (recipient : Bytes) (decision : Decision) → IsOutcome receipt recipient decision → IsLetter
    AnAck : (receipt : Receipt) (recipient : Bytes) → IsAck receipt recipient → IsLetter

  -- ---- accounts

  -- These are the accounts of this provider that stand in the path and have room, each once.
  pub record AreAccounts (accounts : Path) : Type 0 where
    pub differ : AllDiffer accounts
    pub exactly : (account : Bytes)
        → Contains accounts account ↔ (Contains framed.path account × IsTrue (has_room trade provider (half trade provider journal) account))

  -- ---- the table

  -- What is done at a moment, row by row: the entry, what is told, and what is owed.
  pub data IsReceived (now : ℕ) (step : Step) : Type 0 where
    NewEnvelope : (id : Id) → IsEnvelope id → taken_of (half trade provider journal) id ≡ None
        → step ≡ enters trade provider journal (entries.Took now id framed.message) (events.Took id) (letters.Charge id provider ∷ [])
        → IsReceived now step
    KnownEnvelope : (id : Id) → IsEnvelope id → IsSome (taken_of (half trade provider journal) id)
        → step ≡ passes (events.Repeat (letters.Envelope id provider)) (letters.Charge id provider ∷ [])
        → IsReceived now step
    NewCharge : (receipt : Receipt) → IsCharge receipt → charged_of (half trade provider journal) receipt.id receipt.by ≡ None
        → step ≡ enters trade provider journal (entries.Charged now receipt.id receipt.by) (events.Charged receipt.id receipt.by) []
        → IsReceived now step
    KnownCharge : (receipt : Receipt) → IsCharge receipt → IsSome (charged_of (half trade provider journal) receipt.id receipt.by)
        → step ≡ passes (events.Repeat (letters.Charge receipt.id receipt.by)) []
        → IsReceived now step
    NewOutcome : (receipt : Receipt) (recipient : Bytes) (decision : Decision) → IsOutcome receipt recipient decision
        → known_of (half trade provider journal) (pair_of receipt.id recipient) ≡ None
        → step ≡ enters trade provider journal (entries.Learned now receipt.id recipient decision receipt.moment framed.message)
        (events.Learned receipt.id recipient decision) (letters.Ack receipt.id recipient ∷ [])
        → IsReceived now step
    KnownOutcome : (receipt : Receipt) (recipient : Bytes) (decision : Decision) → IsOutcome receipt recipient decision
        → IsSome (known_of (half trade provider journal) (pair_of receipt.id recipient))
        → step ≡ passes (events.Repeat (letters.Outcome receipt.id recipient)) (letters.Ack receipt.id recipient ∷ [])
        → IsReceived now step
    NewAck : (receipt : Receipt) (recipient : Bytes) → IsAck receipt recipient
        → is_acked (half trade provider journal) (pair_of receipt.id recipient) ≡ false
        → step ≡ enters trade provider journal (entries.Acked now receipt.id recipient) (events.Acked receipt.id recipient) []
        → IsReceived now step
    KnownAck : (receipt : Receipt) (recipient : Bytes) → IsAck receipt recipient
        → is_acked (half trade provider journal) (pair_of receipt.id recipient) ≡ true
        → step ≡ passes (events.Repeat (letters.Ack receipt.id recipient)) []
        → IsReceived now step
    SomeRoom : (IsLetter → ⊥) → (account : Bytes) (accounts : Path)
        → accounts_with_room trade provider journal framed.path ≡ account ∷ accounts
        → step ≡ enters trade provider journal (entries.Anomaly now (account ∷ accounts) framed.message)
        (events.Anomaly (length (account ∷ accounts))) []
        → IsReceived now step
    NoRoom : (IsLetter → ⊥) → accounts_with_room trade provider journal framed.path ≡ []
        → step ≡ passes events.Dropped [] → IsReceived now step
