use Rattle.std.proofs.Common.{◌≡◌, ◌++◌, nat_eq, [], ◌∷◌, List, length, map, sym, ap, subst, ◌∙◌, arith, Some}
use Rattle.std.specs.HashMap.{Updates}
use Rattle.std.proofs.lemmas.List.{length-map, map-append}
use Rattle.pec_places.specs.Places.{AreLast}
use Rattle.pec_places.specs.Rows.{Rows}
use Rattle.pec_places.proofs.PlaceLemmas.{lasts_more, on_ok}
use Rattle.pec_places.proofs.groups.Grouped.push.Goals as goal

pub invariant_of-self : goal.invariant_of-self
invariant_of-self g c =
    let group = g.R.InGroup.group_of in
    let rows = c.self.inside.table.rows in
    let place = length c.rows.result.now in
    let room = ap (λ (v : Rows g.row.R.Denot). v.room) c.self.view_is in
    let updates : Updates nat_eq c.self.inside.last c.insert.new.self c.group.result (Some place) =
    on_ok c.insert.result (Updates nat_eq c.self.inside.last c.insert.new.self c.group.result (Some place))
    (c.insert.ensures.succeeds (omega (arith, c.requires, c.self.invariant.mapped, room))) c.insert.ensures.updates in
    let long : place ≡ length (map group rows) =
    ap (λ (rs : List g.row.R.Denot). length rs) c.rows.ensures ∙ sym (length-map rows group) in
    let more : map group c.push.new.self.rows ≡ map group rows ++ c.group.result ∷ [] =
    ap (map group) c.push.ensures.rows ∙ map-append group rows (c.args.row ∷ [])
    ∙ ap (λ n. map group rows ++ n ∷ []) (sym c.group.ensures) in
    record {
      table = omega arith;
      mapped = omega arith;
      last = subst (AreLast c.insert.new.self) (sym more)
          (lasts_more c.self.inside.last c.insert.new.self (map group rows) c.group.result place c.self.invariant.last long updates);
    }
