use Rattle.std.proofs.Common.{ap, ◌∙◌}
use Rattle.pec_ledger.specs.Steps.{moment_of, size_of, version_by}
use Rattle.pec_shelf.specs.Settled.{settled}
use Rattle.pec_shelf.proofs.StepLemmas.{ready_is}
use Rattle.pec_shelf.proofs.TradeLemmas.{settled_of}
use Rattle.pec_shelf.proofs.shelf.Shelf.prepared.Goals as goal

pub returns-clause-is : goal.returns-clause-is
returns-clause-is c = λ trade of.
    ready_is c.args.directory.now trade c.args.self.now.me c.args.self.now.half c.args.draft.now c.in_ok-rows.rows c.with_figures.result c.moment_of-moment.result c.version_by-version.result c.in_ok-size.size
    c.args.place of (c.in_ok-rows.ensures trade (c.requires.homes (settled c.args.directory.now trade) (settled_of c.args.directory.now trade))) c.with_figures.ensures
    (c.moment_of-moment.ensures.value ∙ ap moment_of c.entry.ensures) (c.version_by-version.ensures ∙ ap version_by c.entry-2.ensures)
    (c.in_ok-size.ensures.size ∙ ap size_of c.entry-3.ensures)
