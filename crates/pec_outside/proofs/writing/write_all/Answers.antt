use Rattle.std.proofs.Common.{arith, sym, ◌∙◌}
use Rattle.std.proofs.lemmas.List.{take_rest, take-append-drop}
use Rattle.pec_outside.proofs.FlowLemmas.{wrote_more}
use Rattle.pec_outside.proofs.writing.write_all.Goals as goal

pub loop-rest-preserved : goal.loop-rest-preserved
loop-rest-preserved g c = record {
  wrote = rw take_rest (wrote_more _ _ _ _ _ _ _ c.loop-rest.invariant.wrote c.in_ok-count.ensures.taken
      (sym (take-append-drop c.in_ok-count.count c.loop-rest.rest.now)));
  kept = c.in_ok-count.ensures.kept ∙ c.loop-rest.invariant.kept;
  later = omega arith;
}
