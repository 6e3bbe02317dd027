-- The message that the entry is about.
use Rattle.pec_provider.specs.OfTrades.{world_at}
use Rattle.pec_extract.proofs.logging.taken_for.Goals as goal

pub returns-in-Some : goal.returns-in-Some
returns-in-Some g c =
    rw (← c.in-Some.ensures)
    (c.recipients_taken.ensures c.args.house.now.directory.now (g.S.Sealer.seals c.args.house.now.sealer.now)
    c.args.house.now.me (world_at c.args.house.now) c.requires.runs c.a_house_is_a_trade.ensures.of)
