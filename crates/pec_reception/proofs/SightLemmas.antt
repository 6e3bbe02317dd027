-- What is done with a frame, by what is seen in its message.
use Rattle.std.proofs.Common.{◌≡◌, ℕ, List, [], refl, ap, sym, subst, ◌∙◌, Option, Some, None}
use Rattle.std.specs.Prelude.{option_map}
use Rattle.pec_types.specs.Bytes.{Bytes}
use Rattle.pec_types.specs.Message.{Id}
use Rattle.pec_types.specs.declared.turns.Event.TheVariants as events
use Rattle.pec_receipts.specs.declared.reading.ReceiptView.{ReceiptView}
use Rattle.pec_records.specs.declared.entries.Entry.{Entry}
use Rattle.pec_ledger.specs.Lookups.{taken_of}
use Rattle.pec_ledger.specs.Steps.{half}
use Rattle.pec_ledger.specs.Trade.{Framed, Seen, SeenEnvelope, SeenReceipt, Trade}
use Rattle.pec_plays.specs.Reception.{arrive, by_frame, by_receipt, by_seen, envelope_fits, envelope_rows, otherwise}
use Rattle.pec_plays.specs.Steps.{Step, passes}
use Rattle.pec_reception.specs.Shows.{Answers, Shows}
use Rattle.pec_reception.specs.Views.{sight_of, stated}
use Rattle.pec_reception.specs.declared.received.Received.{Received}
use Rattle.pec_reception.specs.declared.sights.Sight.TheVariants as sights

module _ (trade : Trade) (me now : ℕ) (journal : List Entry) where
  no_frame : (frame : Bytes) → None ≡ trade.unframed frame
      → arrive trade me now journal frame ≡ passes events.Dropped []
  unfolding arrive
  no_frame frame e = ap (by_frame trade me now journal) (sym e)

  a_frame : (frame : Bytes) (framed : Framed) → Some framed ≡ trade.unframed frame
      → arrive trade me now journal frame ≡ by_seen trade me now journal framed (trade.view framed.message)
  unfolding arrive
  a_frame frame framed e = ap (by_frame trade me now journal) (sym e)

  pub an_envelope : (framed : Framed) (seen : Option Seen) (id : Id)
      → Some (sights.Envelope id) ≡ option_map sight_of seen
      → by_seen trade me now journal framed seen
      ≡ envelope_rows trade me now journal framed id (envelope_fits trade me framed)
      (taken_of (half trade me journal) id)
  an_envelope framed None id e = absurd (cc)
  an_envelope framed (Some (SeenEnvelope other moment original)) id e =
      let same : other ≡ id = cc
      in ap (λ (i : Id). envelope_rows trade me now journal framed i (envelope_fits trade me framed)
      (taken_of (half trade me journal) i)) same
  an_envelope framed (Some (SeenReceipt receipt)) id e = absurd (cc)

  pub a_receipt : (framed : Framed) (seen : Option Seen) (view : ReceiptView)
      → Some (sights.Receipt view) ≡ option_map sight_of seen
      → by_seen trade me now journal framed seen ≡ by_receipt trade me now journal framed (stated view) view.kind
  a_receipt framed None view e = absurd (cc)
  a_receipt framed (Some (SeenEnvelope other moment original)) view e = absurd (cc)
  a_receipt framed (Some (SeenReceipt receipt)) view e =
      let seen : ReceiptView = record {
        kind = receipt.kind;
        id = receipt.id;
        by = receipt.by;
        moment = receipt.moment;
        recipient = receipt.recipient;
      }
      in let same : seen ≡ view = cc
      in ap (λ (v : ReceiptView). by_receipt trade me now journal framed (stated v) v.kind) same

  pub nothing : (framed : Framed) (seen : Option Seen) → None ≡ option_map sight_of seen
      → by_seen trade me now journal framed seen ≡ otherwise trade me now journal framed
  nothing framed None e = refl
  nothing framed (Some (SeenEnvelope id moment original)) e = absurd (cc)
  nothing framed (Some (SeenReceipt receipt)) e = absurd (cc)

  -- what is answered on the letter in a frame is done with the frame
  pub shows_letter : (frame : Bytes) (framed : Framed) (found : Option Received) (received : Received)
      → Some framed ≡ trade.unframed frame
      → Answers trade me now journal framed (by_seen trade me now journal framed (trade.view framed.message)) found
      → found ≡ Some received
      → Shows received (arrive trade me now journal frame)
  shows_letter frame framed found received e answers is =
      subst (λ (s : Step). Shows received s) (sym (a_frame frame framed e))
      (subst (λ (o : Option Received). Answers trade me now journal framed (by_seen trade me now journal framed
      (trade.view framed.message)) o) is answers)

  pub shows_other : (frame : Bytes) (framed : Framed) (found : Option Received) (received : Received)
      → Some framed ≡ trade.unframed frame
      → Answers trade me now journal framed (by_seen trade me now journal framed (trade.view framed.message)) found
      → found ≡ None
      → Shows received (otherwise trade me now journal framed) → Shows received (arrive trade me now journal frame)
  shows_other frame framed found received e answers is shows =
      let same = subst (λ (o : Option Received). Answers trade me now journal framed
      (by_seen trade me now journal framed (trade.view framed.message)) o) is answers
      in subst (λ (s : Step). Shows received s) (sym (a_frame frame framed e ∙ same)) shows

  pub shows_nothing : (frame : Bytes) (received given : Received) → None ≡ trade.unframed frame → received ≡ given
      → Shows given (passes events.Dropped []) → Shows received (arrive trade me now journal frame)
  shows_nothing frame received given e r shows =
      subst (λ (x : Received). Shows x (arrive trade me now journal frame)) (sym r)
      (subst (λ (s : Step). Shows given s) (sym (no_frame frame e)) shows)
