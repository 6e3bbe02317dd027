-- One provider's links more are put together.
use Rattle.std.proofs.Common.{List, ◌∷◌, ◌<◌, length, ap, arith, subst}
use Rattle.std.specs.Prelude.{Vec}
use Rattle.std.specs.declared.alloc.Global.{Global}
use Rattle.pec_types.specs.Bytes.{Bytes}
use Rattle.pec_link.specs.Ends.{Taking}
use Rattle.pec_posts.proofs.JoinLemmas.{AllJoinedSoFar, all_joined_more, rows_paired, tray_room}
use Rattle.pec_posts.proofs.PartLemmas.{first_gone}
use Rattle.pec_posts.proofs.parting.join.Goals as goal

pub join-requires-clause-paired : goal.join-requires-clause-paired
join-requires-clause-paired c =
    let rows = c.args.rows.now in
    let takers = c.args.takers.items in
    let trays = ap (λ (l : List (Vec (List Bytes) Global)). length l) c.in-Some.ensures.steps.0 in
    let left = c.loop-tray.invariant.trays_left in
    let some : 0 < length c.loop-tray.takers.items = omega (arith, trays, left) in
    let first = first_gone c.loop-tray.takers.items c.remove-row.new.self.items c.remove-row.result some c.remove-row.ensures.value
    c.remove-row.ensures.items in
    let so_far = subst (λ (l : List (List Taking)). AllJoinedSoFar (length rows) rows takers c.loop-tray.rows l c.loop-tray.arrivals
    (c.in-Some.tray ∷ c.next.new.self.rest.items)) first
    (subst (λ (t : List (Vec (List Bytes) Global)). AllJoinedSoFar (length rows) rows takers c.loop-tray.rows c.loop-tray.takers.items
    c.loop-tray.arrivals t) c.in-Some.ensures.steps.0 c.loop-tray.invariant) in
    rows_paired (length rows) rows takers c.loop-tray.rows c.remove-row.result c.remove-row.new.self.items c.loop-tray.arrivals c.in-Some.tray
    c.next.new.self.rest.items c.requires.ends so_far

pub join-requires-clause-links : goal.join-requires-clause-links
join-requires-clause-links c =
    let rows = c.args.rows.now in
    let takers = c.args.takers.items in
    let trays = ap (λ (l : List (Vec (List Bytes) Global)). length l) c.in-Some.ensures.steps.0 in
    let left = c.loop-tray.invariant.trays_left in
    let some : 0 < length c.loop-tray.takers.items = omega (arith, trays, left) in
    let first = first_gone c.loop-tray.takers.items c.remove-row.new.self.items c.remove-row.result some c.remove-row.ensures.value
    c.remove-row.ensures.items in
    let so_far = subst (λ (l : List (List Taking)). AllJoinedSoFar (length rows) rows takers c.loop-tray.rows l c.loop-tray.arrivals
    (c.in-Some.tray ∷ c.next.new.self.rest.items)) first
    (subst (λ (t : List (Vec (List Bytes) Global)). AllJoinedSoFar (length rows) rows takers c.loop-tray.rows c.loop-tray.takers.items
    c.loop-tray.arrivals t) c.in-Some.ensures.steps.0 c.loop-tray.invariant) in
    tray_room (length rows) rows takers c.loop-tray.rows c.remove-row.result c.remove-row.new.self.items c.loop-tray.arrivals c.in-Some.tray
    c.next.new.self.rest.items c.requires.ends so_far

pub loop-tray-preserved : goal.loop-tray-preserved
loop-tray-preserved c =
    let rows = c.args.rows.now in
    let takers = c.args.takers.items in
    let trays = ap (λ (l : List (Vec (List Bytes) Global)). length l) c.in-Some.ensures.steps.0 in
    let left = c.loop-tray.invariant.trays_left in
    let some : 0 < length c.loop-tray.takers.items = omega (arith, trays, left) in
    let first = first_gone c.loop-tray.takers.items c.remove-row.new.self.items c.remove-row.result some c.remove-row.ensures.value
    c.remove-row.ensures.items in
    let so_far = subst (λ (l : List (List Taking)). AllJoinedSoFar (length rows) rows takers c.loop-tray.rows l c.loop-tray.arrivals
    (c.in-Some.tray ∷ c.next.new.self.rest.items)) first
    (subst (λ (t : List (Vec (List Bytes) Global)). AllJoinedSoFar (length rows) rows takers c.loop-tray.rows c.loop-tray.takers.items
    c.loop-tray.arrivals t) c.in-Some.ensures.steps.0 c.loop-tray.invariant) in
    all_joined_more (length rows) rows takers c.loop-tray.rows c.remove-row.result c.remove-row.new.self.items c.loop-tray.arrivals c.in-Some.tray
    c.next.new.self.rest.items c.requires.ends so_far c.join.new.rows c.join.result c.push_reserved.new.self c.join.ensures.links
    c.join.ensures.shorter c.push_reserved.ensures.items c.push_reserved.ensures.capacity
