use Rattle.std.proofs.Common.{[], sym, subst}
use Rattle.pec_places.specs.Rows.{Rows}
use Rattle.pec_shelf.specs.Drawers.{AreRanked, IsRankOf, RankedRow}
use Rattle.pec_shelf.proofs.DrawerLemmas.{ranked_more}
use Rattle.pec_shelf.proofs.drawers.Drawers.push.Goals as goal

pub invariant_of-self : goal.invariant_of-self
invariant_of-self g c =
    let owner = g.R.Owned.owner_of in
    let ranked : RankedRow g.row.R.Denot =
    record { row = c.args.row; place = c.rank_of-at.result.place; rank = c.rank_of-at.result.rank; counted = c.rank_of-at.result.counted } in
    subst (AreRanked owner g.R.Owned.counts_in []) (sym c.push.ensures.rows)
    (ranked_more owner g.R.Owned.counts_in [] c.self.inside.table.rows ranked c.self.invariant
    (subst (λ (v : Rows g.row.R.Denot). IsRankOf owner g.R.Owned.counts_in v.rows ranked) (sym c.self.view_is) c.rank_of-at.ensures))
