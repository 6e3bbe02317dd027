-- What is told in the trade of the house.
use Rattle.pec_ledger.specs.Steps.{half}
use Rattle.pec_provider.specs.OfTrades.{world_at}
use Rattle.pec_extract.proofs.logging.told_of.Goals as goal

pub returns : goal.returns
returns g c =
    let trade = world_at c.args.house.now in
    c.told_with.ensures trade (half trade c.args.house.now.me c.args.provider.now.chronicle.entries)
    c.a_house_is_a_trade.ensures.of c.taken_for.ensures
