-- The original in the envelope that stands at a row's number is the one that was taken.
use Rattle.pec_trade.specs.Houses.{world_at}
use Rattle.pec_outgoing.proofs.NeedsLemmas.{taken_so}
use Rattle.pec_outgoing.proofs.originals.original_of.Goals as goal

pub returns-clause-taken : goal.returns-clause-taken
returns-clause-taken g c me journal row at =
    taken_so (world_at c.args.house.now) me journal c.args.entry.now c.args.id row c.in_ok-found.found.bytes.now at
    c.in_ok-found.ensures.holds
