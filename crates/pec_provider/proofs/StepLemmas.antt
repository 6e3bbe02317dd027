-- The journal has no room for a step exactly where it has none for its entry.
use Rattle.std.proofs.Common.{◌≡◌, ℕ, Bool, true, false, List, [], ◌∷◌, refl, Option, Some, None}
use Rattle.pec_types.specs.Bytes.{Bytes, Path}
use Rattle.pec_types.specs.Message.{Id}
use Rattle.pec_types.specs.declared.messages.Decision.{Decision}
use Rattle.pec_types.specs.declared.messages.Decision.TheVariants.{Placed, Refused}
use Rattle.pec_types.specs.declared.messages.Refusal.TheVariants as refusals
use Rattle.pec_types.specs.declared.receipts.Kind.{Kind}
use Rattle.pec_types.specs.declared.receipts.Kind.TheVariants as kinds
use Rattle.pec_records.specs.declared.entries.Entry.{Entry}
use Rattle.pec_ledger.specs.Half.{Charge, Known, Taken}
use Rattle.pec_ledger.specs.Lookups.{charged_of, is_acked, known_of, taken_of}
use Rattle.pec_ledger.specs.Pairs.{Pair, pair_of}
use Rattle.pec_ledger.specs.Steps.{half}
use Rattle.pec_ledger.specs.Trade.{Framed, Receipt, Seen, SeenEnvelope, SeenReceipt, Trade}
use Rattle.pec_plays.specs.Decisions.{decide}
use Rattle.pec_plays.specs.Reception.{accounts_with_room, ack_fits, ack_rows, anomaly, arrive, by_ack, by_frame}
use Rattle.pec_plays.specs.Reception.{by_outcome, by_receipt, by_seen, charge_fits, charge_rows, envelope_fits}
use Rattle.pec_plays.specs.Reception.{envelope_rows, otherwise, outcome_fits, outcome_rows}
use Rattle.pec_plays.specs.Steps.{Step}
use Rattle.pec_reception.specs.Shows.{decide_as}
use Rattle.pec_provider.specs.Doing.{is_full_for}

module _ (trade : Trade) (me now : ℕ) (journal : List Entry) where
  abbrev IsSo : Step → Type 0
  IsSo step = step.full ≡ is_full_for trade me journal step.entry

  anomaly_so : (message : Bytes) (accounts : Path) → IsSo (anomaly trade me now journal message accounts)
  anomaly_so message [] = refl
  anomaly_so message (account ∷ accounts) = refl

  otherwise_so : (framed : Framed) → IsSo (otherwise trade me now journal framed)
  otherwise_so framed = anomaly_so framed.message (accounts_with_room trade me journal framed.path)

  envelope_so : (framed : Framed) (id : Id) (fits : Bool) (taken : Option Taken)
      → IsSo (envelope_rows trade me now journal framed id fits taken)
  envelope_so framed id false taken = otherwise_so framed
  envelope_so framed id true None = refl
  envelope_so framed id true (Some taken) = refl

  charge_so : (framed : Framed) (receipt : Receipt) (fits : Bool) (charged : Option Charge)
      → IsSo (charge_rows trade me now journal framed receipt fits charged)
  charge_so framed receipt false charged = otherwise_so framed
  charge_so framed receipt true None = refl
  charge_so framed receipt true (Some charged) = refl

  outcome_so : (framed : Framed) (receipt : Receipt) (recipient : Bytes) (decision : Decision) (fits : Bool)
      (known : Option Known)
      → IsSo (outcome_rows trade me now journal framed receipt recipient decision fits known)
  outcome_so framed receipt recipient decision false known = otherwise_so framed
  outcome_so framed receipt recipient decision true None = refl
  outcome_so framed receipt recipient decision true (Some known) = refl

  ack_so : (framed : Framed) (receipt : Receipt) (recipient : Bytes) (fits acked : Bool)
      → IsSo (ack_rows trade me now journal framed receipt recipient fits acked)
  ack_so framed receipt recipient false acked = otherwise_so framed
  ack_so framed receipt recipient true false = refl
  ack_so framed receipt recipient true true = refl

  by_outcome_so : (framed : Framed) (receipt : Receipt) (decision : Decision) (recipient : Option Bytes)
      → IsSo (by_outcome trade me now journal framed receipt decision recipient)
  by_outcome_so framed receipt decision None = otherwise_so framed
  by_outcome_so framed receipt decision (Some recipient) =
      outcome_so framed receipt recipient decision
      (outcome_fits trade me now journal framed receipt recipient decision)
      (known_of (half trade me journal) (pair_of receipt.id recipient))

  by_ack_so : (framed : Framed) (receipt : Receipt) (recipient : Option Bytes)
      → IsSo (by_ack trade me now journal framed receipt recipient)
  by_ack_so framed receipt None = otherwise_so framed
  by_ack_so framed receipt (Some recipient) =
      ack_so framed receipt recipient (ack_fits trade me now journal framed receipt recipient)
      (is_acked (half trade me journal) (pair_of receipt.id recipient))

  by_receipt_so : (framed : Framed) (receipt : Receipt) (kind : Kind)
      → IsSo (by_receipt trade me now journal framed receipt kind)
  by_receipt_so framed receipt kinds.Charge =
      charge_so framed receipt (charge_fits trade me now journal framed receipt)
      (charged_of (half trade me journal) receipt.id receipt.by)
  by_receipt_so framed receipt kinds.Delivery = by_outcome_so framed receipt Placed receipt.recipient
  by_receipt_so framed receipt (kinds.DeliveryError refusals.NoMailbox) =
      by_outcome_so framed receipt (Refused refusals.NoMailbox) receipt.recipient
  by_receipt_so framed receipt (kinds.DeliveryError refusals.MailboxFull) =
      by_outcome_so framed receipt (Refused refusals.MailboxFull) receipt.recipient
  by_receipt_so framed receipt (kinds.DeliveryError refusals.Virus) = otherwise_so framed
  by_receipt_so framed receipt kinds.VirusFound =
      by_outcome_so framed receipt (Refused refusals.Virus) receipt.recipient
  by_receipt_so framed receipt kinds.Ack = by_ack_so framed receipt receipt.recipient
  by_receipt_so framed receipt kinds.Acceptance = otherwise_so framed
  by_receipt_so framed receipt (kinds.NonAcceptance cause) = otherwise_so framed
  by_receipt_so framed receipt kinds.Warning = otherwise_so framed
  by_receipt_so framed receipt kinds.Notice = otherwise_so framed
  by_receipt_so framed receipt kinds.LateNotice = otherwise_so framed

  by_seen_so : (framed : Framed) (seen : Option Seen) → IsSo (by_seen trade me now journal framed seen)
  by_seen_so framed None = otherwise_so framed
  by_seen_so framed (Some (SeenEnvelope id moment original)) =
      envelope_so framed id (envelope_fits trade me framed) (taken_of (half trade me journal) id)
  by_seen_so framed (Some (SeenReceipt receipt)) = by_receipt_so framed receipt receipt.kind

  by_frame_so : (framed : Option Framed) → IsSo (by_frame trade me now journal framed)
  by_frame_so None = refl
  by_frame_so (Some framed) = by_seen_so framed (trade.view framed.message)

  pub arrive_so : (frame : Bytes) → IsSo (arrive trade me now journal frame)
  unfolding arrive
  arrive_so frame = by_frame_so (trade.unframed frame)

  pub decide_so : (found : Bool) (pair : Pair) → IsSo (decide_as trade me now found journal pair)
  unfolding decide
  decide_so found pair = refl
