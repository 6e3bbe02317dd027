use Rattle.std.proofs.Common.{ap}
use Rattle.pec_receipts.specs.declared.reading.ReceiptView.{ReceiptView}
use Rattle.pec_trade.specs.TradeOf.{trade_of}
use Rattle.pec_reception.proofs.ArrivalLemmas.{is_there, of_directory, outcome_seen}
use Rattle.pec_reception.specs.Views.{framed_shown, stated}
use Rattle.pec_reception.proofs.arrivals.outcome.Goals as goal

pub returns : goal.returns
returns c = λ seals. λ journal. λ is.
    let kept = c.args.directory.now
    in let trade = trade_of kept seals
    in let me = c.args.shelf.now.me
    in outcome_seen trade me journal (framed_shown c.args.framed.now) c.args.shelf.now.half is (stated c.args.view.now)
    c.args.recipient.now c.in_ok-copy.field-0 c.args.decision _ _ _ c.home_of.result c.is_to_addressee.result c.has_pair.result
    c.is_some.result
    c.in_ok-copy.ensures (ap (λ (view : ReceiptView). view.by) c.view.view_is)
    (ap (λ (view : ReceiptView). view.id.provider) c.view.view_is)
    (ap (λ (view : ReceiptView). view.id.number) c.view.view_is) c.home_of.ensures.home
    (rw c.as_slice.ensures.value at (c.is_to_addressee.ensures seals)) (c.has_pair.ensures trade (of_directory kept seals))
    (is_there _ c.known.result _ c.is_some.result c.is_some.ensures c.known.ensures)
