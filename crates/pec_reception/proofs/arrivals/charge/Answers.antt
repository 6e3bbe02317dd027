use Rattle.std.proofs.Common.{ap}
use Rattle.pec_receipts.specs.declared.reading.ReceiptView.{ReceiptView}
use Rattle.pec_trade.specs.TradeOf.{trade_of}
use Rattle.pec_reception.proofs.ArrivalLemmas.{charge_seen, is_there, of_directory, receipts_path}
use Rattle.pec_reception.specs.Views.{framed_shown, stated}
use Rattle.pec_reception.proofs.arrivals.charge.Goals as goal

pub returns : goal.returns
returns c = λ seals. λ journal. λ is.
    let kept = c.args.directory.now
    in let trade = trade_of kept seals
    in let me = c.args.shelf.now.me
    in charge_seen trade me journal (framed_shown c.args.framed.now) c.args.shelf.now.half is
    (stated c.args.view.now) _ _ _
    c.is_to_receipts.result c.has_pairs_at.result c.is_some.result
    (ap (λ (view : ReceiptView). view.by) c.view.view_is) (ap (λ (view : ReceiptView). view.id.provider) c.view.view_is)
    (ap (λ (view : ReceiptView). view.id.number) c.view.view_is)
    (receipts_path trade me c.me.result c.args.framed.now.path.items c.as_slice.result.now c.is_to_receipts.result
    c.as_slice.ensures.value c.me.ensures c.is_to_receipts.ensures)
    (c.has_pairs_at.ensures trade (of_directory kept seals))
    (is_there _ c.charge.result _ c.is_some.result c.is_some.ensures c.charge.ensures)
