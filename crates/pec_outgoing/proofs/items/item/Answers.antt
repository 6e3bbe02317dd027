-- What is shown of the entry at the needed number is the item's text.
use Rattle.std.proofs.Common.{sym}
use Rattle.pec_trade.specs.Houses.{world_at}
use Rattle.pec_outgoing.specs.Views.{wanted_shown}
use Rattle.pec_outgoing.proofs.ItemLemmas.{text_so}
use Rattle.pec_outgoing.proofs.items.item.Goals as goal

pub returns-clause-text : goal.returns-clause-text
returns-clause-text g c journal number is need at =
    text_so (world_at c.args.house.now) c.args.shelf.now c.args.posted.now journal c.args.entry.now number
    (wanted_shown c.in-Some.wanted) c.in_ok-text.text.items is need at (sym c.in-Some.ensures)
    c.in_ok-text.ensures.shown
