-- One link more: of the first end of the row of its provider.
use Rattle.std.proofs.Common.{List, ◌∷◌, ap, sym, subst, ◌∙◌}
use Rattle.pec_link.specs.Ends.{Taking}
use Rattle.pec_posts.proofs.JoinLemmas.{IsJoinedSoFar, are_pair, joined_more}
use Rattle.pec_posts.proofs.arrivals.Arrivals.join.Goals as goal

pub of-requires : goal.of-requires
of-requires c =
    let so_far = subst (λ (l : List Taking). IsJoinedSoFar c.args.rows.now c.args.takers c.loop-taker.rows c.loop-taker.links l)
    c.in-Some.ensures.steps.0 c.loop-taker.invariant in
    let is = rw c.len.ensures at c.index-rows-len.is in
    let first = c.index-rows-len.is ∙ c.take_first-putter.ensures in
    are_pair c.args.rows.now c.args.takers c.loop-taker.rows c.loop-taker.links c.in-Some.taker c.next.new.self.rest.items c.requires.rows
    c.requires.paired so_far c.index-rows-len.result c.take_first-putter.new.self c.take_first-putter.result is first

pub loop-taker-preserved : goal.loop-taker-preserved
loop-taker-preserved c =
    let so_far = subst (λ (l : List Taking). IsJoinedSoFar c.args.rows.now c.args.takers c.loop-taker.rows c.loop-taker.links l)
    c.in-Some.ensures.steps.0 c.loop-taker.invariant in
    let is = rw c.len.ensures at c.index-rows-len.is in
    let first = c.index-rows-len.is ∙ c.take_first-putter.ensures in
    rw c.len.ensures
    (joined_more c.args.rows.now c.args.takers c.loop-taker.rows c.loop-taker.links c.in-Some.taker c.next.new.self.rest.items c.requires.rows
    c.requires.paired so_far c.index-rows-len.result c.take_first-putter.new.self c.take_first-putter.result is first
    c.of.result c.push_reserved.new.self c.of.ensures c.push_reserved.ensures.items c.push_reserved.ensures.capacity)
