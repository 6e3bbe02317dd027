use Rattle.std.proofs.Common.{ap, ◌∙◌, Some, None}
use Rattle.pec_shelf.specs.Drawers.{RankedRow}
use Rattle.pec_shelf.proofs.DrawerLemmas.{row_alone}
use Rattle.pec_shelf.proofs.drawers.Drawers.nth.Goals as goal

pub returns-in-Some : goal.returns-in-Some
returns-in-Some g c =
    ap (λ (v : RankedRow g.row.R.Denot). Some v.row) c.ranked.view_is
    ∙ row_alone g.R.Owned.owner_of c.args.account.now c.args.self.now.rows (Some c.in-Some.ranked.now) c.args.rank c.in-Some.ensures

pub returns-in-None : goal.returns-in-None
returns-in-None g c = row_alone g.R.Owned.owner_of c.args.account.now c.args.self.now.rows None c.args.rank c.in-None.ensures
