use Rattle.std.proofs.Common.{◌≡◌, ℕ, ◌<◌, ◌++◌, nat_eq, [], ◌∷◌, List, length, map, sym, ap, subst, ◌∙◌, arith, Option, Some}
use Rattle.std.specs.HashMap.{Updates}
use Rattle.std.specs.Option.{IfSome}
use Rattle.std.proofs.lemmas.List.{length-map, map-append}
use Rattle.pec_places.specs.Places.{AreLast, last_place, links_of}
use Rattle.pec_places.specs.Rows.{Rows}
use Rattle.pec_places.proofs.PlaceLemmas.{last_within, lasts_more, links_more, on_ok, some_below}
use Rattle.pec_places.proofs.tables.Table.push.Goals as goal

pub to-requires : goal.to-requires
to-requires g c =
    let numbers = map g.R.Numbered.number_of c.args.self.now.rows in
    let long : length numbers < 18446744073709551616 = omega (
      arith,
      c.as_slice-place.type_inv.0,
      ap (λ (rs : List g.row.R.Denot). length rs) c.as_slice-place.ensures.value,
      ap (λ (v : Rows g.row.R.Denot). length v.rows) c.self.view_is,
      length-map c.args.self.now.rows g.R.Numbered.number_of,
    ) in
    subst (λ (o : Option ℕ). IfSome o (λ place. place < 18446744073709551615)) (sym c.last-before.ensures)
    (some_below (last_place c.number-number.result numbers) (length numbers) 18446744073709551615 (last_within c.number-number.result numbers) long)

pub invariant_of-self : goal.invariant_of-self
invariant_of-self g c =
    let number = g.R.Numbered.number_of in
    let rows = c.self.inside.rows.items in
    let numbers = map number rows in
    let place = length c.as_slice-place.result.now in
    let room = ap (λ (v : Rows g.row.R.Denot). v.room) c.self.view_is in
    let updates : Updates nat_eq c.self.inside.last c.insert.new.self c.number-number.result (Some place) =
    on_ok c.insert.result (Updates nat_eq c.self.inside.last c.insert.new.self c.number-number.result (Some place))
    (c.insert.ensures.succeeds (omega (arith, c.requires, c.self.invariant.mapped, room))) c.insert.ensures.updates in
    let long : place ≡ length numbers =
    ap (λ (rs : List g.row.R.Denot). length rs) c.as_slice-place.ensures.value ∙ sym (length-map rows number) in
    let more : map number c.push_reserved-2.new.self.items ≡ numbers ++ c.number-number.result ∷ [] =
    ap (map number) c.push_reserved-2.ensures.items ∙ map-append number rows (c.args.row ∷ [])
    ∙ ap (λ n. numbers ++ n ∷ []) (sym c.number-number.ensures) in
    let before : c.to.result ≡ last_place c.number-number.result numbers =
    c.to.ensures ∙ c.last-before.ensures
    ∙ ap (λ (v : Rows g.row.R.Denot). last_place c.number-number.result (map number v.rows)) (sym c.self.view_is) in
    record {
      list = omega arith;
      beside = omega arith;
      mapped = omega arith;
      linked = c.push_reserved.ensures.items ∙ ap (λ (ls : List (Option ℕ)). ls ++ c.to.result ∷ []) c.self.invariant.linked
          ∙ ap (λ (o : Option ℕ). links_of numbers ++ o ∷ []) before ∙ sym (links_more numbers c.number-number.result) ∙ ap links_of (sym more);
      last = subst (AreLast c.insert.new.self) (sym more)
          (lasts_more c.self.inside.last c.insert.new.self numbers c.number-number.result place c.self.invariant.last long updates);
    }
