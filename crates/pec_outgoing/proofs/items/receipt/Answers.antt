-- The receipt is composed of the original that the entry holds.
use Rattle.pec_outgoing.proofs.items.receipt.Goals as goal

pub returns-clause-shown : goal.returns-clause-shown
returns-clause-shown g c = (c.in_ok-original.original.now, c.in_ok-original.ensures.holds, c.in_ok-text.ensures)
