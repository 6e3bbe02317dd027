-- The provider's disk is that of its journal.
use Rattle.std.proofs.Common.{subst, sym}
use Rattle.pec_outside.specs.DiskModel.{GrowsTo}
use Rattle.pec_chronicle.specs.Chronicle.{ChronicleState}
use Rattle.pec_stock.specs.Stock.{size_made}
use Rattle.pec_provider.proofs.provider.Provider.create.Goals as goal

pub returns-in-Ok-clause-any_moment : goal.returns-in-Ok-clause-any_moment
returns-in-Ok-clause-any_moment g c tells =
    let sight = g.D.Disk.sight in
    let house = c.args.house.now in
    subst (λ (chronicle : ChronicleState _). GrowsTo (size_made house.directory.now house.me) (sight c.args.disk) (sight chronicle.disk))
    (sym c.opened.ensures.made.0) (c.in-Ok.ensures.any_moment tells)
