-- One link more: its end that puts goes behind those of the row of its provider.
use Rattle.std.proofs.Common.{List, ◌∷◌, ◌++◌, [], ap, sym, subst, ◌∙◌}
use Rattle.std.specs.Prelude.{Vec}
use Rattle.std.specs.declared.alloc.Global.{Global}
use Rattle.pec_types.specs.Bytes.{Bytes}
use Rattle.pec_link.specs.Ends.{Putting}
use Rattle.pec_posts.proofs.PartLemmas.{IsPartedSoFar, parted_more, parted_none, row_room}
use Rattle.pec_posts.proofs.arrivals.Arrivals.part.Goals as goal

pub loop-link-init : goal.loop-link-init
loop-link-init c =
    subst (λ (l : List (List Bytes)). IsPartedSoFar c.args.self c.args.rows.now c.args.rows.now c.args.takers l)
    (sym (c.into_iter-link-iterator.ensures.into_iter_gives.0 ∙ c.self.view_is))
    (parted_none c.args.self c.args.rows.now c.args.takers c.requires.takers)

pub push_reserved-requires : goal.push_reserved-requires
push_reserved-requires c =
    let so_far = subst (λ (l : List (List Bytes)). IsPartedSoFar c.args.self c.args.rows.now c.loop-link.rows c.loop-link.takers l)
    c.in-Some.ensures.steps.0 c.loop-link.invariant in
    let is = rw c.len.ensures at c.index-rows-len.is in
    rw (← c.index-rows-len.is)
    (row_room c.args.self c.args.rows.now c.loop-link.rows c.loop-link.takers c.in-Some.link c.next.new.self.rest.items c.requires.rows so_far
    c.requires.room c.index-rows-len.result is)

pub loop-link-preserved : goal.loop-link-preserved
loop-link-preserved c =
    let so_far = subst (λ (l : List (List Bytes)). IsPartedSoFar c.args.self c.args.rows.now c.loop-link.rows c.loop-link.takers l)
    c.in-Some.ensures.steps.0 c.loop-link.invariant in
    let is = rw c.len.ensures at c.index-rows-len.is in
    let items = c.push_reserved.ensures.items
    ∙ ap (λ (r : Vec Putting Global). r.items ++ c.into_ends-putter.result.0 ∷ []) (sym c.index-rows-len.is) in
    let capacity = c.push_reserved.ensures.capacity ∙ ap (λ (r : Vec Putting Global). r.cap) (sym c.index-rows-len.is) in
    rw c.len.ensures
    (parted_more c.args.self c.args.rows.now c.loop-link.rows c.loop-link.takers c.in-Some.link c.next.new.self.rest.items c.requires.rows so_far
    c.into_ends-putter.result.0 c.into_ends-putter.result.1 c.into_ends-putter.ensures.settled c.into_ends-putter.ensures.waiting
    c.index-rows-len.result c.push_reserved.new.self c.push_reserved-in-loop-link.new.self is items capacity
    c.push_reserved-in-loop-link.ensures.items c.push_reserved-in-loop-link.ensures.capacity)
