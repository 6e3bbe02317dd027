-- What a provider does with a frame: `arrive`, a function by cases for each kind of letter, new or known; and what is
-- no letter for this provider becomes an anomaly of the accounts in its path that have room, or is dropped. RFC 6109,
-- sections 3.1 to 3.3, within this project's profile.
use Rattle.std.specs.Prelude.{ℕ, ◌==◌, nat_lt, Bool, true, false, not, ◌&&◌, List, [], ◌∷◌, length, filter, Option, Some, None, is_some}
use Rattle.std.specs.List.{list_any}
use Rattle.std.specs.Str.{bytes_eq}
use Rattle.pec_types.specs.Bytes.{Bytes, Path}
use Rattle.pec_types.specs.Message.{Id}
use Rattle.pec_types.specs.declared.letters.Letter.TheVariants as letters
use Rattle.pec_types.specs.declared.messages.Decision.{Decision}
use Rattle.pec_types.specs.declared.messages.Decision.TheVariants.{Placed, Refused}
use Rattle.pec_types.specs.declared.messages.Refusal.TheVariants as refusals
use Rattle.pec_types.specs.declared.receipts.Kind.{Kind}
use Rattle.pec_types.specs.declared.receipts.Kind.TheVariants as kinds
use Rattle.pec_types.specs.declared.turns.Event.TheVariants as events
use Rattle.pec_records.specs.declared.entries.Entry.{Entry}
use Rattle.pec_records.specs.declared.entries.Entry.TheVariants as entries
use Rattle.pec_ledger.specs.Half.{Charge, Known, Taken}
use Rattle.pec_ledger.specs.Lookups.{Accepted, accepted_at, addresses_of, at_home, charged_of, decided_of, has_room, is_acked, is_home, known_of, taken_of}
use Rattle.pec_ledger.specs.Pairs.{pair_of}
use Rattle.pec_ledger.specs.Steps.{half}
use Rattle.pec_ledger.specs.Trade.{Framed, Receipt, Seen, SeenEnvelope, SeenReceipt, Trade}
use Rattle.pec_plays.specs.Paths.{outcome_path}
use Rattle.pec_plays.specs.Steps.{Step, enters, passes}

-- ---- paths

-- both paths have the same addresses, in the same order
abbrev pub same_path : Path → Path → Bool
same_path [] [] = true
same_path [] (b ∷ bs) = false
same_path (a ∷ xs) [] = false
same_path (a ∷ xs) (b ∷ bs) = bytes_eq a b && same_path xs bs

-- items, each at its first place
abbrev pub each_once : {X : Type 0} → (X → X → Bool) → List X → List X
each_once same [] = []
each_once same (x ∷ xs) = x ∷ filter (λ y. not (same x y)) (each_once same xs)

-- ---- what an envelope and a message have

-- the path is the list of the envelope's recipients here, and there are some
abbrev pub envelope_fits : Trade → ℕ → Framed → Bool
envelope_fits trade provider framed =
    same_path framed.path (at_home trade provider (trade.envelope_recipients framed.message))
    && nat_lt 0 (length (at_home trade provider (trade.envelope_recipients framed.message)))

-- the message was accepted, and has recipients that are at home at this provider
abbrev pub has_pairs_at : Trade → ℕ → Option Accepted → Bool
has_pairs_at trade by None = false
has_pairs_at trade by (Some message) = nat_lt 0 (length (at_home trade by (addresses_of message.facts)))

-- the recipient is one of the message's pairs
abbrev pub has_pair : Trade → Bytes → Option Accepted → Bool
has_pair trade recipient None = false
has_pair trade recipient (Some message) = list_any (bytes_eq recipient) (addresses_of message.facts) && is_some (trade.home recipient)

-- the path is that of an outcome of the message
abbrev pub is_outcome_path : Trade → Id → Decision → Path → Option Accepted → Bool
is_outcome_path trade id decision path None = false
is_outcome_path trade id decision path (Some message) = same_path path (outcome_path trade id decision message.sender)

-- the accounts of a path that have room, each once, in the order in which they first stand there
abbrev pub accounts_with_room : Trade → ℕ → List Entry → Path → Path
accounts_with_room trade provider journal path = filter (has_room trade provider (half trade provider journal)) (each_once bytes_eq path)

module _ (trade : Trade) (provider now : ℕ) (journal : List Entry) where
  -- ---- anything else

  -- a message becomes an anomaly of these accounts; where there are none it is dropped
  abbrev pub anomaly : Bytes → Path → Step
  anomaly message [] = passes events.Dropped []
  anomaly message (account ∷ accounts) =
      enters trade provider journal (entries.Anomaly now (account ∷ accounts) message) (events.Anomaly (length (account ∷ accounts))) []

  -- what is done with a message that is no letter for this provider
  abbrev pub otherwise : Framed → Step
  otherwise framed = anomaly framed.message (accounts_with_room trade provider journal framed.path)

  -- ---- envelopes

  -- an envelope: it is taken if it is new, and the receipt of taking charge is owed also where it came before
  abbrev pub envelope_rows : Framed → Id → Bool → Option Taken → Step
  envelope_rows framed id false taken = otherwise framed
  envelope_rows framed id true None =
      enters trade provider journal (entries.Took now id framed.message) (events.Took id) (letters.Charge id provider ∷ [])
  envelope_rows framed id true (Some taken) = passes (events.Repeat (letters.Envelope id provider)) (letters.Charge id provider ∷ [])

  -- ---- charges

  -- the message is ours and has pairs there, and the path is our receipt address
  abbrev pub charge_fits : Framed → Receipt → Bool
  charge_fits framed receipt =
      (receipt.id.provider == provider)
      && (has_pairs_at trade receipt.by (accepted_at (half trade provider journal) receipt.id.number)
      && same_path framed.path (trade.receipts provider ∷ []))

  -- a charge: it is noted if it is new, and changes nothing where it came before
  abbrev pub charge_rows : Framed → Receipt → Bool → Option Charge → Step
  charge_rows framed receipt false charged = otherwise framed
  charge_rows framed receipt true None =
      enters trade provider journal (entries.Charged now receipt.id receipt.by) (events.Charged receipt.id receipt.by) []
  charge_rows framed receipt true (Some charged) = passes (events.Repeat (letters.Charge receipt.id receipt.by)) []

  -- ---- outcomes

  -- the message is ours and has this pair, the recipient's provider sealed, and the path is that of what was decided
  abbrev pub outcome_fits : Framed → Receipt → Bytes → Decision → Bool
  outcome_fits framed receipt recipient decision =
      (receipt.id.provider == provider)
      && (is_home receipt.by (trade.home recipient)
      && (has_pair trade recipient (accepted_at (half trade provider journal) receipt.id.number)
      && is_outcome_path trade receipt.id decision framed.path (accepted_at (half trade provider journal) receipt.id.number)))

  -- an outcome: it is learned if it is new, and its acknowledgement is owed also where it came before
  abbrev pub outcome_rows : Framed → Receipt → Bytes → Decision → Bool → Option Known → Step
  outcome_rows framed receipt recipient decision false known = otherwise framed
  outcome_rows framed receipt recipient decision true None =
      enters trade provider journal (entries.Learned now receipt.id recipient decision receipt.moment framed.message)
      (events.Learned receipt.id recipient decision) (letters.Ack receipt.id recipient ∷ [])
  outcome_rows framed receipt recipient decision true (Some known) =
      passes (events.Repeat (letters.Outcome receipt.id recipient)) (letters.Ack receipt.id recipient ∷ [])

  -- ---- acknowledgements

  -- the message's provider sealed, the recipient is ours, the pair is decided, and the path is our receipt address
  abbrev pub ack_fits : Framed → Receipt → Bytes → Bool
  ack_fits framed receipt recipient =
      (receipt.by == receipt.id.provider)
      && (is_home provider (trade.home recipient)
      && (is_some (decided_of (half trade provider journal) (pair_of receipt.id recipient))
      && same_path framed.path (trade.receipts provider ∷ [])))

  -- an acknowledgement: it is noted if it is new, and changes nothing where it came before
  abbrev pub ack_rows : Framed → Receipt → Bytes → Bool → Bool → Step
  ack_rows framed receipt recipient false acked = otherwise framed
  ack_rows framed receipt recipient true false =
      enters trade provider journal (entries.Acked now receipt.id recipient) (events.Acked receipt.id recipient) []
  ack_rows framed receipt recipient true true = passes (events.Repeat (letters.Ack receipt.id recipient)) []

  -- ---- by what is seen

  -- what is done with a receipt of delivery, a notice of error or that of a virus
  abbrev pub by_outcome : Framed → Receipt → Decision → Option Bytes → Step
  by_outcome framed receipt decision None = otherwise framed
  by_outcome framed receipt decision (Some recipient) =
      outcome_rows framed receipt recipient decision (outcome_fits framed receipt recipient decision)
      (known_of (half trade provider journal) (pair_of receipt.id recipient))

  -- what is done with an acknowledgement
  abbrev pub by_ack : Framed → Receipt → Option Bytes → Step
  by_ack framed receipt None = otherwise framed
  by_ack framed receipt (Some recipient) =
      ack_rows framed receipt recipient (ack_fits framed receipt recipient)
      (is_acked (half trade provider journal) (pair_of receipt.id recipient))

  -- what is done with a receipt, by its kind: acceptances, warnings, notices and the delivery error of a virus are no
  -- letters
  abbrev pub by_receipt : Framed → Receipt → Kind → Step
  by_receipt framed receipt kinds.Charge =
      charge_rows framed receipt (charge_fits framed receipt) (charged_of (half trade provider journal) receipt.id receipt.by)
  by_receipt framed receipt kinds.Delivery = by_outcome framed receipt Placed receipt.recipient
  by_receipt framed receipt (kinds.DeliveryError refusals.NoMailbox) = by_outcome framed receipt (Refused refusals.NoMailbox) receipt.recipient
  by_receipt framed receipt (kinds.DeliveryError refusals.MailboxFull) = by_outcome framed receipt (Refused refusals.MailboxFull) receipt.recipient
  by_receipt framed receipt kinds.VirusFound = by_outcome framed receipt (Refused refusals.Virus) receipt.recipient
  by_receipt framed receipt kinds.Ack = by_ack framed receipt receipt.recipient
  by_receipt framed receipt _ = otherwise framed

  -- what is done with a message, by what is seen in it
  abbrev pub by_seen : Framed → Option Seen → Step
  by_seen framed None = otherwise framed
  by_seen framed (Some (SeenEnvelope id moment original)) =
      envelope_rows framed id (envelope_fits trade provider framed) (taken_of (half trade provider journal) id)
  by_seen framed (Some (SeenReceipt receipt)) = by_receipt framed receipt receipt.kind

  -- what is done with a frame, by what stands in it: bytes that are no frame are dropped
  abbrev pub by_frame : Option Framed → Step
  by_frame None = passes events.Dropped []
  by_frame (Some framed) = by_seen framed (trade.view framed.message)

  -- What the provider does with a frame.
  unfoldable pub arrive : Bytes → Step
  arrive frame = by_frame (trade.unframed frame)
