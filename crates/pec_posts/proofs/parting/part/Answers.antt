-- One provider's links more are taken apart.
use Rattle.std.proofs.Common.{List, ◌∷◌, ◌<◌, length, ap, refl, arith, sym, subst, ◌∙◌}
use Rattle.std.specs.Prelude.{Vec}
use Rattle.std.specs.declared.alloc.Global.{Global}
use Rattle.std.proofs.lemmas.List.{nil_from_length}
use Rattle.pec_link.specs.Ends.{Taking}
use Rattle.pec_posts.specs.Arrivals.{Waiting}
use Rattle.pec_posts.proofs.PartLemmas.{AllPartedSoFar, all_parted, all_parted_more, first_gone, rows_many, tray_room}
use Rattle.pec_posts.proofs.parting.part.Goals as goal

pub part-requires-clause-rows : goal.part-requires-clause-rows
part-requires-clause-rows c =
    let all = c.args.arrivals.now.items in
    let trays = ap (λ (l : List (Vec Taking Global)). length l) c.in-Some.ensures.steps.0 in
    let left = c.loop-tray.invariant.parted.trays_left in
    let some : 0 < length c.loop-tray.arrivals.items = omega (arith, trays, left) in
    let first = first_gone c.loop-tray.arrivals.items c.remove-links.new.self.items c.remove-links.result some c.remove-links.ensures.value
    c.remove-links.ensures.items in
    let so_far = subst (λ (l : List Waiting). AllPartedSoFar (length all) all c.loop-tray.rows c.loop-tray.takers l
    (c.in-Some.tray ∷ c.next.new.self.rest.items)) first
    (subst (λ (t : List (Vec Taking Global)). AllPartedSoFar (length all) all c.loop-tray.rows c.loop-tray.takers c.loop-tray.arrivals.items t)
    c.in-Some.ensures.steps.0 c.loop-tray.invariant.parted) in
    rows_many (length all) all c.loop-tray.rows c.loop-tray.takers c.remove-links.result c.remove-links.new.self.items c.in-Some.tray
    c.next.new.self.rest.items refl c.requires.square so_far

pub part-requires-clause-takers : goal.part-requires-clause-takers
part-requires-clause-takers c =
    let all = c.args.arrivals.now.items in
    let trays = ap (λ (l : List (Vec Taking Global)). length l) c.in-Some.ensures.steps.0 in
    let left = c.loop-tray.invariant.parted.trays_left in
    let some : 0 < length c.loop-tray.arrivals.items = omega (arith, trays, left) in
    let first = first_gone c.loop-tray.arrivals.items c.remove-links.new.self.items c.remove-links.result some c.remove-links.ensures.value
    c.remove-links.ensures.items in
    let so_far = subst (λ (l : List Waiting). AllPartedSoFar (length all) all c.loop-tray.rows c.loop-tray.takers l
    (c.in-Some.tray ∷ c.next.new.self.rest.items)) first
    (subst (λ (t : List (Vec Taking Global)). AllPartedSoFar (length all) all c.loop-tray.rows c.loop-tray.takers c.loop-tray.arrivals.items t)
    c.in-Some.ensures.steps.0 c.loop-tray.invariant.parted) in
    tray_room (length all) all c.loop-tray.rows c.loop-tray.takers c.remove-links.result c.remove-links.new.self.items c.in-Some.tray
    c.next.new.self.rest.items refl c.requires.square so_far

pub loop-tray-preserved : goal.loop-tray-preserved
loop-tray-preserved c =
    let all = c.args.arrivals.now.items in
    let trays = ap (λ (l : List (Vec Taking Global)). length l) c.in-Some.ensures.steps.0 in
    let left = c.loop-tray.invariant.parted.trays_left in
    let some : 0 < length c.loop-tray.arrivals.items = omega (arith, trays, left) in
    let first = first_gone c.loop-tray.arrivals.items c.remove-links.new.self.items c.remove-links.result some c.remove-links.ensures.value
    c.remove-links.ensures.items in
    let so_far = subst (λ (l : List Waiting). AllPartedSoFar (length all) all c.loop-tray.rows c.loop-tray.takers l
    (c.in-Some.tray ∷ c.next.new.self.rest.items)) first
    (subst (λ (t : List (Vec Taking Global)). AllPartedSoFar (length all) all c.loop-tray.rows c.loop-tray.takers c.loop-tray.arrivals.items t)
    c.in-Some.ensures.steps.0 c.loop-tray.invariant.parted) in record {
      parted =
          all_parted_more (length all) all c.loop-tray.rows c.loop-tray.takers c.remove-links.result c.remove-links.new.self.items c.in-Some.tray
          c.next.new.self.rest.items refl c.requires.square so_far c.part.new.rows c.part.result c.push_reserved.new.self c.part.ensures
          c.push_reserved.ensures.items c.push_reserved.ensures.capacity;
      room = c.remove-links.ensures.capacity ∙ c.loop-tray.invariant.room;
    }

pub returns-clause-ends : goal.returns-clause-ends
returns-clause-ends c =
    let all = c.args.arrivals.now.items in
    let none = nil_from_length c.loop-tray.tray-iterator.rest.items (sym c.loop-tray.tray-iterator.rest.ok.0 ∙ c.in-None.ensures.steps.0) in
    (all_parted (length all) all c.loop-tray.rows c.loop-tray.takers c.loop-tray.arrivals.items c.loop-tray.tray-iterator.rest.items refl none
    c.loop-tray.invariant.parted).0
