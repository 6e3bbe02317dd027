use Rattle.std.proofs.Common.{◌≡◌, ◌+◌, [], List, ℕ, length, slice_get, Some, ap, sym, ◌∙◌}
use Rattle.std.proofs.lemmas.Option.{slice_get-get_or}
use Rattle.pec_places.specs.Places.{last_place}
use Rattle.pec_places.specs.Rows.{Rows}
use Rattle.pec_shelf.specs.Drawers.{RankedRow, counted_of, own_rows}
use Rattle.pec_shelf.specs.Keys.{number_of_rank, owners_in}
use Rattle.pec_shelf.proofs.DrawerLemmas.{last_is}
use Rattle.pec_shelf.proofs.drawers.Drawers.last.Goals as goal

pub returns : goal.returns
returns g c =
    let owner = g.R.Owned.owner_of in
    let counts = g.R.Owned.counts_in in
    let account = c.args.account.now in
    let rows = c.self.inside.table.rows in
    let place = c.in_ok-place.place in
    let found = c.in_ok-ranked.ranked.now in
    let got = c.in_ok-ranked.ensures.lookup in
    let at : slice_get rows place ≡ Some found =
    ap (λ (rs : List (RankedRow g.row.R.Denot)). slice_get rs place) (sym c.rows.ensures)
    ∙ slice_get-get_or c.rows.result.now place found got.3.0 ∙ ap Some (sym got.1) in
    let there : last_place (number_of_rank account 0) (owners_in owner rows) ≡ Some place =
    ap (λ (n : ℕ). last_place n (owners_in owner rows)) (sym c.number_of_rank.ensures) ∙ sym c.in_ok-place.ensures in
    let last = last_is owner counts account [] rows place found c.self.invariant there at (sym c.if-not-is_of.ensures) in
    record {
      rows_are = c.in_ok-rows.ensures.1 ∙ ap (λ (v : RankedRow g.row.R.Denot). v.rank + 1) c.ranked.view_is ∙ last.rank
          ∙ ap (λ (v : Rows g.row.R.Denot). length (own_rows owner account v.rows)) c.self.view_is;
      counted_are = ap (λ (v : RankedRow g.row.R.Denot). v.counted) c.ranked.view_is ∙ last.counted
          ∙ ap (λ (v : Rows g.row.R.Denot). counted_of owner counts account v.rows) c.self.view_is;
    }
