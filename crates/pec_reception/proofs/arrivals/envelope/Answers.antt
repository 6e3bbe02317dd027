use Rattle.std.proofs.Common.{ap, ◌∙◌}
use Rattle.pec_types.specs.Message.{Id}
use Rattle.pec_ledger.specs.Lookups.{at_home}
use Rattle.pec_trade.specs.TradeOf.{trade_of}
use Rattle.pec_reception.proofs.ArrivalLemmas.{envelope_seen, is_there, of_directory}
use Rattle.pec_reception.specs.Views.{framed_shown}
use Rattle.pec_reception.proofs.arrivals.envelope.Goals as goal

pub returns : goal.returns
returns c = λ seals. λ journal. λ is.
    let kept = c.args.directory.now
    in let trade = trade_of kept seals
    in let me = c.args.shelf.now.me
    in envelope_seen trade me journal (framed_shown c.args.framed.now) c.args.shelf.now.half is c.args.id c.me.result
    c.id.inside.provider
    c.in_ok-here.here.items c.is_for.result c.is_some.result
    c.me.ensures (ap (λ (id : Id). id.provider) c.id.view_is)
    (c.in_ok-here.ensures trade (of_directory kept seals) ∙ ap (at_home trade me) c.requires.names)
    (rw (c.as_slice.ensures.value, c.as_slice-2.ensures.value) at c.is_for.ensures)
    (is_there _ c.taken.result _ c.is_some.result c.is_some.ensures c.taken.ensures)
