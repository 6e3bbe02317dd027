-- What is true of the world that the ledger asks: `IsTrade`. Each law names who has to prove it: the directory, heads,
-- admission, letters, receipts, seals and frames. They have premises, which journals that are Fit always meet: without
-- them no world would meet all laws.
use Rattle.std.specs.Prelude.{◌≡◌, ℕ, ◌<◌, ◌≤◌, true, [], ◌∷◌, length, Contains, Option, Some, None, IsSome, IsTrue}
use Rattle.std.specs.Option.{option_and_then}
use Rattle.pec_types.specs.Bytes.{Bytes, Path}
use Rattle.pec_types.specs.Message.{Id}
use Rattle.pec_types.specs.declared.letters.Letter.{Letter}
use Rattle.pec_types.specs.declared.letters.Letter.TheVariants as letters
use Rattle.pec_types.specs.declared.messages.Cause.{Cause}
use Rattle.pec_types.specs.declared.messages.Facts.{Facts}
use Rattle.pec_types.specs.declared.messages.Refusal.TheVariants as refusals
use Rattle.pec_types.specs.declared.messages.TheConstants.{MESSAGES}
use Rattle.pec_types.specs.declared.moments.TheConstants.{END_OF_TIME}
use Rattle.pec_types.specs.declared.receipts.Kind.{Kind}
use Rattle.pec_types.specs.declared.receipts.Kind.TheVariants as kinds
use Rattle.pec_records.specs.Entry.{most_addresses}
use Rattle.pec_ledger.specs.Along.{AllDiffer}
use Rattle.pec_ledger.specs.Lookups.{addresses_of, at_home}
use Rattle.pec_ledger.specs.Trade.{Receipt, Seen, SeenEnvelope, SeenReceipt, Trade}

-- ---- which letter a message is

-- the letter that a receipt is, by its kind, its message, who sealed it, and its recipient; the delivery error of a
-- virus is for the sender alone, and no letter
abbrev pub letter_on : Kind → Id → ℕ → Option Bytes → Option Letter
letter_on kinds.Charge id by recipient = Some (letters.Charge id by)
letter_on kinds.Delivery id by (Some recipient) = Some (letters.Outcome id recipient)
letter_on (kinds.DeliveryError refusals.NoMailbox) id by (Some recipient) = Some (letters.Outcome id recipient)
letter_on (kinds.DeliveryError refusals.MailboxFull) id by (Some recipient) = Some (letters.Outcome id recipient)
letter_on kinds.VirusFound id by (Some recipient) = Some (letters.Outcome id recipient)
letter_on kinds.Ack id by (Some recipient) = Some (letters.Ack id recipient)
letter_on _ id by recipient = None

-- The letter that is seen in a message, at a provider: an envelope is for whoever gets it. Receipts of other kinds are
-- no letters.
abbrev pub letter_seen : ℕ → Seen → Option Letter
letter_seen me (SeenEnvelope id moment original) = Some (letters.Envelope id me)
letter_seen me (SeenReceipt receipt) = letter_on receipt.kind receipt.id receipt.by receipt.recipient

-- the letter that a provider sees in a message, if it sees one
abbrev pub letter_in : Trade → ℕ → Bytes → Option Letter
letter_in trade me message = option_and_then (letter_seen me) (trade.view message)

-- what is seen is a notice of non-acceptance
abbrev pub IsRefusal : Seen → Type 0
IsRefusal (SeenEnvelope id moment original) = ⊥
IsRefusal (SeenReceipt receipt) = (cause : Cause) × (receipt.kind ≡ kinds.NonAcceptance cause)

-- ---- premises

-- A message that was accepted under this id: it has facts, from an account of the id's provider, and was admitted along
-- the path of its own recipients.
pub record IsSent (trade : Trade) (id : Id) (original : Bytes) : Type 0 where
  pub provider : id.provider < trade.providers
  pub number : id.number < MESSAGES
  pub facts : Facts
  pub are : trade.facts original ≡ Some facts
  pub account : IsTrue (trade.is_account id.provider facts.sender)
  pub admitted : trade.cause id.provider facts.sender (addresses_of facts) original ≡ None
  pub few : length facts.recipients ≤ most_addresses

-- The receipt names one of the message's certified recipients.
pub record Names (trade : Trade) (facts : Facts) (recipient : Option Bytes) : Type 0 where
  pub address : Bytes
  pub is : recipient ≡ Some address
  pub among : Contains (addresses_of facts) address
  pub home : IsSome (trade.home address)

-- Who composes a receipt of a kind, and which recipient it names.
abbrev pub IsOfKind : Trade → Facts → Kind → Receipt → Type 0
IsOfKind trade facts kinds.Acceptance receipt = (receipt.by ≡ receipt.id.provider) × (receipt.recipient ≡ None)
IsOfKind trade facts (kinds.NonAcceptance cause) receipt = ⊥
IsOfKind trade facts kinds.Charge receipt = receipt.recipient ≡ None
IsOfKind trade facts kinds.Delivery receipt = Names trade facts receipt.recipient
IsOfKind trade facts (kinds.DeliveryError refusal) receipt = Names trade facts receipt.recipient
IsOfKind trade facts kinds.VirusFound receipt = Names trade facts receipt.recipient
IsOfKind trade facts kinds.Warning receipt = (receipt.by ≡ receipt.id.provider) × Names trade facts receipt.recipient
IsOfKind trade facts kinds.Notice receipt = (receipt.by ≡ receipt.id.provider) × Names trade facts receipt.recipient
IsOfKind trade facts kinds.LateNotice receipt = (receipt.by ≡ receipt.id.provider) × Names trade facts receipt.recipient
IsOfKind trade facts kinds.Ack receipt = Names trade facts receipt.recipient

-- A receipt that a provider of the directory composes of a message that was accepted, at a moment that has a date.
pub record CanBeComposed (trade : Trade) (receipt : Receipt) (original : Bytes) : Type 0 where
  pub sent : IsSent trade receipt.id original
  pub by : receipt.by < trade.providers
  pub in_range : receipt.moment < END_OF_TIME
  pub kind : IsOfKind trade sent.facts receipt.kind receipt

-- ---- the laws

-- A world of which a ledger can be kept: it meets these laws, each under the name of what has to prove it.
pub record IsTrade (trade : Trade) : Type 0 where
  -- The directory: a home is a provider, and an account is at home at its own provider.
  pub homes : (address : Bytes) (provider : ℕ) → trade.home address ≡ Some provider → provider < trade.providers
  pub accounts : (provider : ℕ) (account : Bytes) → IsTrue (trade.is_account provider account) → trade.home account ≡ Some provider
  -- Heads: no recipient stands twice.
  pub recipients_differ : (message : Bytes) (facts : Facts) → trade.facts message ≡ Some facts → AllDiffer (addresses_of facts)
  -- Admission: a message that nothing speaks against has facts, whose sender is the account; nothing speaks against it
  -- along the path of its own recipients; and it has no more recipients than its path has addresses.
  pub admitted : (provider : ℕ) (sender : Bytes) (path : Path) (message : Bytes) → trade.cause provider sender path message ≡ None
      → (facts : Facts) × (trade.facts message ≡ Some facts) × (facts.sender ≡ sender)
      × (trade.cause provider sender (addresses_of facts) message ≡ None) × (length facts.recipients ≤ length path)
  -- Letters: an envelope is seen as what it was composed of, its head names the message's recipients, and what is seen
  -- as an envelope is one of a provider's. Texts state dates, which moments below END_OF_TIME have.
  pub envelope_seen : (id : Id) (moment : ℕ) (original : Bytes) → IsSent trade id original → moment < END_OF_TIME
      → trade.view (trade.envelope_text id moment original) ≡ Some (SeenEnvelope id moment original)
  pub envelope_names : (id : Id) (moment : ℕ) (original : Bytes) (sent : IsSent trade id original) → moment < END_OF_TIME
      → trade.envelope_recipients (trade.envelope_text id moment original) ≡ addresses_of sent.facts
  pub envelope_of : (message : Bytes) (id : Id) (moment : ℕ) (original : Bytes) → trade.view message ≡ Some (SeenEnvelope id moment original)
      → id.provider < trade.providers
  -- Receipts: one is seen as what it was composed of.
  pub receipt_seen : (receipt : Receipt) (original : Bytes) → CanBeComposed trade receipt original
      → trade.view (trade.receipt_text receipt original) ≡ Some (SeenReceipt receipt)
  -- What is seen in a notice of non-acceptance is one, if anything is; in an anomaly nothing is seen.
  pub refusal_seen : (id : Id) (moment : ℕ) (sender : Bytes) (cause : Cause) (path : Path) (message : Bytes)
      → id.provider < trade.providers → id.number < MESSAGES → IsTrue (trade.is_account id.provider sender)
      → 0 < length path → length path ≤ most_addresses → moment < END_OF_TIME
      → (seen : Seen) → trade.view (trade.refusal_text id moment sender cause path message) ≡ Some seen → IsRefusal seen
  pub anomaly_seen : (provider entry moment : ℕ) (message : Bytes) → provider < trade.providers
      → moment < END_OF_TIME → trade.view (trade.anomaly_text provider entry moment message) ≡ None
  -- Seals: what is seen opens, and nothing is seen in a text of no bytes.
  pub nothing_seen : trade.view [] ≡ None
  pub seen_opens : (message : Bytes) (seen : Seen) → trade.view message ≡ Some seen → trade.opens message ≡ true
  -- Frames: what was framed stands in the frame.
  pub frames : (path : Path) (message frame : Bytes) → trade.framed path message ≡ Some frame
      → trade.unframed frame ≡ Some (record { path = path; message = message })

-- ---- how long frames are

-- The letters of each message that was sent can be put: the frame of none is too long, along the path on which it goes.
pub record LettersCanBePut (trade : Trade) : Type 0 where
  pub envelopes : (id : Id) (moment : ℕ) (original : Bytes) (sent : IsSent trade id original) → moment < END_OF_TIME
      → (to : ℕ) → 0 < length (at_home trade to (addresses_of sent.facts))
      → IsSome (trade.framed (at_home trade to (addresses_of sent.facts)) (trade.envelope_text id moment original))
  pub to_senders : (receipt : Receipt) (original : Bytes) (can : CanBeComposed trade receipt original)
      → IsSome (trade.framed (can.sent.facts.sender ∷ []) (trade.receipt_text receipt original))
  pub to_providers : (receipt : Receipt) (original : Bytes) → CanBeComposed trade receipt original
      → (provider : ℕ) → provider < trade.providers
      → IsSome (trade.framed (trade.receipts provider ∷ []) (trade.receipt_text receipt original))
