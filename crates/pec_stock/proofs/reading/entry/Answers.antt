use Rattle.std.proofs.Common.{◌∙◌, sym}
use Rattle.pec_stock.proofs.Agreeing.{agree_kept}
use Rattle.pec_stock.proofs.PlaceLemmas.{place_there}
use Rattle.pec_stock.proofs.reading.entry.Goals as goal

pub unreachable-requires : goal.unreachable-requires
unreachable-requires g c =
    place_there c.args.chronicle.now.entries c.args.shelf.now.places c.args.number c.requires.agree.holds.places c.requires.there
    (sym c.place.ensures.is ∙ c.in_default.is)

pub returns-in_err-entry-clause-agree : goal.returns-in_err-entry-clause-agree
returns-in_err-entry-clause-agree g c =
    agree_kept c.args.directory.now c.args.chronicle.now c.read.new.self c.args.shelf.now c.requires.agree c.requires.up c.read.ensures.kept

pub returns-clause-agree : goal.returns-clause-agree
returns-clause-agree g c =
    agree_kept c.args.directory.now c.args.chronicle.now c.read.new.self c.args.shelf.now c.requires.agree c.requires.up c.read.ensures.kept
