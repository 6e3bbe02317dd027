-- The provider runs in its house.
use Rattle.pec_provider.specs.OfTrades.{world_at}
use Rattle.pec_extract.proofs.reading.entry_of.Goals as goal

pub returns-clause-kept : goal.returns-clause-kept
returns-clause-kept g c = λ tells stands.
    c.entry.ensures.kept tells stands c.args.house.now.directory.now (g.S.Sealer.seals c.args.house.now.sealer.now)
    c.args.house.now.me c.requires.runs

pub returns-clause-unchanged : goal.returns-clause-unchanged
returns-clause-unchanged g c = λ tells stands.
    c.entry.ensures.unchanged tells stands c.args.house.now.directory.now (g.S.Sealer.seals c.args.house.now.sealer.now)
    c.args.house.now.me (world_at c.args.house.now) c.requires.runs c.a_house_is_a_trade.ensures.of

pub returns-clause-reads : goal.returns-clause-reads
returns-clause-reads g c =
    c.entry.ensures.reads c.args.house.now.directory.now (g.S.Sealer.seals c.args.house.now.sealer.now)
    c.args.house.now.me c.requires.runs

pub returns-clause-runs : goal.returns-clause-runs
returns-clause-runs g c =
    c.entry.ensures.runs c.args.house.now.directory.now (g.S.Sealer.seals c.args.house.now.sealer.now)
    c.args.house.now.me c.requires.runs
