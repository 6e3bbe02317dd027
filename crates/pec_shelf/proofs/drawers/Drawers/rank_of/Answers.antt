use Rattle.std.proofs.Common.{◌+◌, Bool, cond, refl, ap, ◌∙◌}
use Rattle.pec_shelf.proofs.DrawerLemmas.{rank_is}
use Rattle.pec_shelf.proofs.drawers.Drawers.rank_of.Goals as goal

pub returns : goal.returns
returns g c =
    rank_is g.R.Owned.owner_of g.R.Owned.counts_in c.args.self.now.rows c.args.row.now c.in-Some.account.now c.len-place.result c.count-rank.result c.counted.result
    c.one_if.result (c.counted.result + c.one_if.result) c.in-Some.ensures c.len-place.ensures.value c.count-rank.ensures.value c.counted.ensures.value
    (c.one_if.ensures ∙ ap (λ (b : Bool). cond b 1 0) c.counts.ensures) refl
