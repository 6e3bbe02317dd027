use Rattle.std.proofs.Common.{◌≡◌, ℕ, ◌<◌, Bool, cond, length, map, take, get_or, find, sym, ap, subst, ◌∙◌, arith, Option, Some, slice_get}
use Rattle.std.specs.Option.{option_and_then, option_or}
use Rattle.pec_places.specs.Places.{last_place}
use Rattle.pec_places.specs.Rows.{Rows}
use Rattle.pec_places.proofs.TableLemmas.{begun, left, step}
use Rattle.pec_places.proofs.tables.Table.find.Goals as goal

pub loop-next-init : goal.loop-next-init
loop-next-init g c =
    let rows = c.args.self.now.rows in
    let passes = g.S.Sought.finds c.args.key.now in
    let number = g.R.Numbered.number_of in
    let sought = g.S.Sought.sought c.args.key.now in
    let next : c.last-next.result ≡ last_place sought (map number rows) =
    c.last-next.ensures ∙ ap (λ n. last_place n (map number rows)) c.number.ensures in
    let so = begun number passes sought (λ row yes. g.met.S.Sought.agrees c.args.key.now row yes) rows c.last-next.result next in
    record { found = so.0; at = so.1 }

pub index-requires : goal.index-requires
index-requires g c =
    omega (arith, (c.loop-next.invariant.at c.in-Some.place c.in-Some.is).0, c.self.inside.rows.ok.0, ap (λ (v : Rows g.row.R.Denot). length v.rows) c.self.view_is)

pub before-next-requires : goal.before-next-requires
before-next-requires g c = (c.loop-next.invariant.at c.in-Some.place c.in-Some.is).0

pub loop-next-smaller : goal.loop-next-smaller
loop-next-smaller g c =
    let rows = c.args.self.now.rows in
    let passes = g.S.Sought.finds c.args.key.now in
    let number = g.R.Numbered.number_of in
    let sought = g.S.Sought.sought c.args.key.now in
    let place = c.in-Some.place in
    let goes = step number passes sought (λ row yes. g.met.S.Sought.agrees c.args.key.now row yes) rows place c.index.result.now c.loop-next.next c.loop-next.found
    c.first-found.result c.before-next.result c.in-Some.is c.loop-next.invariant.found c.loop-next.invariant.at
    (c.index.ensures ∙ ap (λ (v : Rows g.row.R.Denot). get_or v.rows place c.index.result.now) c.self.view_is)
    (c.first-found.ensures ∙ ap (λ (b : Bool). cond b (Some place) c.loop-next.found) c.finds.ensures)
    c.before-next.ensures in
    subst (λ (n : Option ℕ). left c.before-next.result < left n) (sym c.in-Some.is) goes.less

pub loop-next-preserved : goal.loop-next-preserved
loop-next-preserved g c =
    let rows = c.args.self.now.rows in
    let passes = g.S.Sought.finds c.args.key.now in
    let number = g.R.Numbered.number_of in
    let sought = g.S.Sought.sought c.args.key.now in
    let place = c.in-Some.place in
    let goes = step number passes sought (λ row yes. g.met.S.Sought.agrees c.args.key.now row yes) rows place c.index.result.now c.loop-next.next c.loop-next.found
    c.first-found.result c.before-next.result c.in-Some.is c.loop-next.invariant.found c.loop-next.invariant.at
    (c.index.ensures ∙ ap (λ (v : Rows g.row.R.Denot). get_or v.rows place c.index.result.now) c.self.view_is)
    (c.first-found.ensures ∙ ap (λ (b : Bool). cond b (Some place) c.loop-next.found) c.finds.ensures)
    c.before-next.ensures in
    record { found = goes.found; at = goes.at }

pub returns : goal.returns
returns g c =
    c.at.ensures ∙ sym (c.loop-next.invariant.found ∙ ap (λ (n : Option ℕ). option_or (find (g.S.Sought.finds c.args.key.now) (take (left n) c.args.self.now.rows)) (option_and_then (slice_get c.args.self.now.rows) c.loop-next.found)) c.in_default.is)
