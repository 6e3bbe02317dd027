use Rattle.std.proofs.Common.{◌≡◌, suc, ◌-◌, length, sym, ap, ◌∙◌, arith}
use Rattle.pec_places.specs.Rows.{Rows}
use Rattle.pec_shelf.specs.Drawers.{RankedRow, counted_of, own_numbered, own_rows, rows_in}
use Rattle.pec_shelf.proofs.DrawerLemmas.{find_of, last_counts, no_place, without_places_long}
use Rattle.pec_shelf.proofs.drawers.Drawers.counted_among.Goals as goal

pub returns-in-Some : goal.returns-in-Some
returns-in-Some g c =
    let own = ap (λ (v : Rows g.row.R.Denot). length (own_rows g.R.Owned.owner_of c.args.account.now v.rows)) c.self.view_is in
    let last : suc (c.args.count - 1) ≡ length (own_rows g.R.Owned.owner_of c.args.account.now (rows_in c.self.inside.table.rows)) =
    omega (arith, own, c.requires, c.if-count-eq0.false) in
    let value : c.ranked.inside.counted ≡ counted_of g.R.Owned.owner_of g.R.Owned.counts_in c.args.account.now c.args.self.now.rows =
    ap (λ (v : RankedRow g.row.R.Denot). v.counted) c.ranked.view_is
    ∙ last_counts g.R.Owned.owner_of g.R.Owned.counts_in c.args.account.now (rows_in c.self.inside.table.rows) (c.args.count - 1) _ c.in-Some.ranked.now
    (find_of g.R.Owned.owner_of g.R.Owned.counts_in c.args.account.now c.self.inside.table.rows (c.args.count - 1) c.self.invariant)
    (sym c.in-Some.ensures) last
    ∙ ap (λ (v : Rows g.row.R.Denot). counted_of g.R.Owned.owner_of g.R.Owned.counts_in c.args.account.now v.rows) c.self.view_is in
    value

pub returns-in-None : goal.returns-in-None
returns-in-None g c =
    let own = ap (λ (v : Rows g.row.R.Denot). length (own_rows g.R.Owned.owner_of c.args.account.now v.rows)) c.self.view_is in
    let finds = find_of g.R.Owned.owner_of g.R.Owned.counts_in c.args.account.now c.self.inside.table.rows (c.args.count - 1) c.self.invariant in
    let past = no_place (own_numbered g.R.Owned.owner_of c.args.account.now 0 (rows_in c.self.inside.table.rows)) (c.args.count - 1) _ (sym c.in-None.ensures) finds.row in
    let long = without_places_long g.R.Owned.owner_of c.args.account.now 0 (rows_in c.self.inside.table.rows) in
    absurd (omega (arith, own, past, long, c.requires, c.if-count-eq0.false))
