use Rattle.std.proofs.Common.{◌≡◌, ◌-◌, ◌≤◌, ◌++◌, length, map}
use Rattle.std.specs.Prelude.{vec_capacity}
use Rattle.pec_network.specs.Judging.{lists_of}
use Rattle.pec_network.specs.Network.{of_first}
use Rattle.pec_network.proofs.judging.one_each.Given as goal

abbrev pub invariant-loop : goal.invariant-loop
invariant-loop g l = record {
  patterns : lists_of g.J.Judge.patterns l.each.items
      ++ of_first (l.count - l.counter) (map g.J.Judge.patterns l.judges.items)
      ≡ of_first l.count (map g.J.Judge.patterns l.fn.judges.items);
  seen : lists_of g.J.Judge.seen l.each.items ++ of_first (l.count - l.counter) (map g.J.Judge.seen l.judges.items)
      ≡ of_first l.count (map g.J.Judge.seen l.fn.judges.items);
  many : length l.each.items ≡ l.counter;
  room : l.count ≤ vec_capacity l.each;
}
