use Rattle.std.proofs.Common.{arith}
use Rattle.std.proofs.lemmas.Result.{err_from_is_err_and}
use Rattle.pec_grammar.proofs.NumberLemmas.{number_goes_on, number_stops, number_ends}
use Rattle.pec_grammar.proofs.numbers.number.Goals as goal

pub returns-in_err-further-clause-gives : goal.returns-in_err-further-clause-gives
returns-in_err-further-clause-gives c =
    let p = err_from_is_err_and c.from_residual.result c.from_residual.ensures.1 in
    rw (p.1, p.2) (number_stops _ _ _ _ _ _ c.loop-left-test.true c.in_err-further.ensures.gives c.loop-left.invariant.same)

pub loop-left-preserved : goal.loop-left-preserved
loop-left-preserved c = record {
  left = omega (arith, c.loop-left.invariant.left);
  below = c.in_ok-further.ensures.below;
  same = number_goes_on _ _ _ _ _ _ _ c.loop-left-test.true c.in_ok-further.ensures.gives c.loop-left.invariant.same;
}

pub returns-clause-gives : goal.returns-clause-gives
returns-clause-gives c = number_ends _ _ _ _ _ c.loop-left-test.false c.loop-left.invariant.same
