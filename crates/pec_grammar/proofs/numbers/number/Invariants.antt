use Rattle.std.proofs.Common.{◌≡◌, ◌≤◌, ◌<◌}
use Rattle.pec_grammar.specs.Numbers.{number_at}
use Rattle.pec_grammar.specs.Reading.{standing}
use Rattle.pec_grammar.proofs.numbers.number.Given as goal

abbrev pub invariant-loop-left : goal.invariant-loop-left
invariant-loop-left l = record {
  left : l.left ≤ 8;
  below : l.high < l.bound;
  same : number_at l.bound l.fn.count 0 (standing l.fn.at) ≡ number_at l.bound l.left l.high (standing l.at);
}

abbrev pub decreases-loop-left : goal.decreases-loop-left
decreases-loop-left l = l.left
