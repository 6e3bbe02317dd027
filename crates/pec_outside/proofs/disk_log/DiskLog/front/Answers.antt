use Rattle.std.proofs.Common.{ap, sym, arith}
use Rattle.pec_outside.specs.DiskLog.{step_of, steps_of}
use Rattle.pec_outside.proofs.ImageLemmas.{goes_on}
use Rattle.pec_outside.proofs.disk_log.DiskLog.front.Goals as goal

pub loop-step-preserved : goal.loop-step-preserved
loop-step-preserved c =
    let gone = c.in_ok-repeat.ensures in
    let is = c.step-item.is in
    record {
      log = gone.log;
      front = goes_on _ (steps_of c.loop-step.log) _ c.as_slice-step-items.result.now c.loop-step.step-index c.loop-step.left c.left_behind-left.result c.step-item.result (step_of c.step-item.result)
          c.loop-step.invariant.front c.loop-step-test.true (omega (arith, c.if-left-eq0.false)) (ap step_of (sym is)) gone.steps c.left_behind-left.ensures;
    }
