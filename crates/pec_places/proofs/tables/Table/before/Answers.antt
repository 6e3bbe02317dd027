use Rattle.std.proofs.Common.{ℕ, ◌<◌, List, Option, length, map, take, get_or, slice_index, ap, ◌∙◌, arith}
use Rattle.std.proofs.lemmas.List.{length-map}
use Rattle.pec_places.specs.Places.{last_place}
use Rattle.pec_places.specs.Rows.{Rows}
use Rattle.pec_places.proofs.PlaceLemmas.{as_many_links, link_at}
use Rattle.pec_places.proofs.tables.Table.before.Goals as goal

pub index-requires : goal.index-requires
index-requires g c =
    omega (
      arith,
      c.requires,
      c.self.inside.links.ok.0,
      ap (λ (ls : List (Option ℕ)). length ls) c.self.invariant.linked,
      as_many_links (map g.R.Numbered.number_of c.self.inside.rows.items),
      length-map c.self.inside.rows.items g.R.Numbered.number_of,
      ap (λ (v : Rows g.row.R.Denot). length v.rows) c.self.view_is,
    )

pub returns : goal.returns
returns g c =
    let number = g.R.Numbered.number_of in
    let numbers = map number c.self.inside.rows.items in
    let place = c.args.place in
    let within : place < length numbers = omega (
      arith,
      c.requires,
      length-map c.self.inside.rows.items number,
      ap (λ (v : Rows g.row.R.Denot). length v.rows) c.self.view_is,
    ) in
    c.place.ensures ∙ c.index.ensures ∙ ap (λ (ls : List (Option ℕ)). get_or ls place c.index.result.now) c.self.invariant.linked
    ∙ link_at numbers place c.index.result.now within
    ∙ ap (λ (v : Rows g.row.R.Denot). last_place (slice_index (map number v.rows) place) (take place (map number v.rows))) c.self.view_is
