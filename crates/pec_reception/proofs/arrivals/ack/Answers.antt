use Rattle.std.proofs.Common.{ap}
use Rattle.pec_receipts.specs.declared.reading.ReceiptView.{ReceiptView}
use Rattle.pec_trade.specs.TradeOf.{trade_of}
use Rattle.pec_reception.proofs.ArrivalLemmas.{ack_seen, is_there, receipts_path}
use Rattle.pec_reception.specs.Views.{framed_shown, stated}
use Rattle.pec_reception.proofs.arrivals.ack.Goals as goal

pub returns : goal.returns
returns c = λ seals. λ journal. λ is.
    let kept = c.args.directory.now
    in let trade = trade_of kept seals
    in let me = c.args.shelf.now.me
    in ack_seen trade me journal (framed_shown c.args.framed.now) c.args.shelf.now.half is (stated c.args.view.now)
    c.args.recipient.now c.in_ok-copy.field-0 _ _ c.home_of.result c.is_to_receipts.result c.is_some.result
    c.is_acked.result
    c.in_ok-copy.ensures (ap (λ (view : ReceiptView). view.by) c.view.view_is)
    (ap (λ (view : ReceiptView). view.id.provider) c.view.view_is)
    c.home_of.ensures.home
    (receipts_path trade me c.me.result c.args.framed.now.path.items c.as_slice.result.now c.is_to_receipts.result
    c.as_slice.ensures.value c.me.ensures c.is_to_receipts.ensures)
    (is_there _ c.fate.result _ c.is_some.result c.is_some.ensures c.fate.ensures)
    c.is_acked.ensures
