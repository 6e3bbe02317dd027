-- What is wanted is this receipt, and the entry isn't what that is composed of.
use Rattle.std.proofs.Common.{subst}
use Rattle.pec_trade.specs.Houses.{world_at}
use Rattle.pec_outgoing.specs.ItemNeeds.{IsShown}
use Rattle.pec_outgoing.specs.Views.{wanted_shown}
use Rattle.pec_outgoing.specs.declared.wanting.Wanted.{Wanted as SomeWanted}
use Rattle.pec_outgoing.proofs.items.text_of.Goals as goal

pub returns-in-Receipt-clause-changed : goal.returns-in-Receipt-clause-changed
returns-in-Receipt-clause-changed g c changed text shown =
    c.receipt.ensures.changed changed text
    (subst
    (λ (wanted : SomeWanted). IsShown (world_at c.args.desk.now.house.now) c.args.desk.now.shelf.now.me
    (wanted_shown wanted) c.args.entry.now text)
    c.in-Receipt.is shown)
