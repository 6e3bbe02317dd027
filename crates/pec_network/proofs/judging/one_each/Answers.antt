use Rattle.std.proofs.Common.{◌≡◌, ◌+◌, ◌-◌, suc, refl, arith}
use Rattle.pec_network.proofs.JudgeLemmas.{each_done, each_more, first_each}
use Rattle.pec_network.proofs.judging.one_each.Goals as goal

pub loop-init : goal.loop-init
loop-init g c = record {
  patterns = first_each g.J.Judge.patterns c.in_ok-each.each.items c.args.judges.items c.args.count
      c.in_ok-each.ensures.items;
  seen = first_each g.J.Judge.seen c.in_ok-each.each.items c.args.judges.items c.args.count
      c.in_ok-each.ensures.items;
  many = rw c.in_ok-each.ensures.items refl;
  room = let e = c.in_ok-each.ensures.capacity in omega (arith, e);
}

pub loop-preserved : goal.loop-preserved
loop-preserved g c =
    let so = c.loop.invariant in
    let next : c.args.count - c.loop.counter ≡ suc (c.args.count - (c.loop.counter + 1)) = omega (arith, c.loop-test.true) in
    let more = c.push_reserved.ensures.len in
    record {
      patterns = each_more g.J.Judge.patterns c.loop.each.items c.push_reserved.new.self.items c.loop.judges.items
          c.first-judge.new.list.items c.first-judge.result c.of.result (c.args.count - c.loop.counter)
          (c.args.count - (c.loop.counter + 1)) _ next c.first-judge.ensures.first c.first-judge.ensures.rest
          c.of.ensures.patterns c.push_reserved.ensures.items so.patterns;
      seen = each_more g.J.Judge.seen c.loop.each.items c.push_reserved.new.self.items c.loop.judges.items
          c.first-judge.new.list.items c.first-judge.result c.of.result (c.args.count - c.loop.counter)
          (c.args.count - (c.loop.counter + 1)) _ next c.first-judge.ensures.first c.first-judge.ensures.rest
          c.of.ensures.seen c.push_reserved.ensures.items so.seen;
      many = let e = so.many in omega (arith, e, more, c.push_reserved.new.self.ok.0, c.loop.each.ok.0);
      room = let e = so.room in omega (arith, e, c.push_reserved.ensures.capacity);
    }

pub returns-clause-patterns : goal.returns-clause-patterns
returns-clause-patterns g c =
    each_done g.J.Judge.patterns c.loop.each.items c.loop.judges.items (c.args.count - c.loop.counter) _
    (omega (arith, c.loop-test.false)) c.loop.invariant.patterns

pub returns-clause-seen : goal.returns-clause-seen
returns-clause-seen g c =
    each_done g.J.Judge.seen c.loop.each.items c.loop.judges.items (c.args.count - c.loop.counter) _
    (omega (arith, c.loop-test.false)) c.loop.invariant.seen
