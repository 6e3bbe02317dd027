-- The provider runs in its house.
use Rattle.pec_provider.specs.OfTrades.{world_at}
use Rattle.pec_extract.proofs.logging.facts_accepted.Goals as goal

pub returns : goal.returns
returns g c =
    c.facts_accepted.ensures c.args.house.now.directory.now (g.S.Sealer.seals c.args.house.now.sealer.now)
    c.args.house.now.me (world_at c.args.house.now) c.requires.runs c.a_house_is_a_trade.ensures.of
