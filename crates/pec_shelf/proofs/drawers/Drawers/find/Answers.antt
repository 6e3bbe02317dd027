use Rattle.std.proofs.Common.{ap, ◌∙◌, Bor, slice_get}
use Rattle.pec_places.specs.Rows.{Rows}
use Rattle.pec_shelf.specs.Drawers.{RankedRow, own_numbered, placed_row}
use Rattle.std.specs.Option.{option_map}
use Rattle.pec_shelf.proofs.DrawerLemmas.{find_of, map_twice}
use Rattle.pec_shelf.proofs.drawers.Drawers.find.Goals as goal

pub returns : goal.returns
returns g c =
    map_twice c.find.result (λ (ranked : Bor (RankedRow g.row.R.Denot)). ranked.now) placed_row ∙ ap (option_map placed_row) c.find.ensures
    ∙ (find_of g.R.Owned.owner_of g.R.Owned.counts_in c.args.account.now c.self.inside.table.rows c.args.rank c.self.invariant).row
    ∙ ap (λ (v : Rows g.row.R.Denot). slice_get (own_numbered g.R.Owned.owner_of c.args.account.now 0 v.rows) c.args.rank) c.self.view_is
