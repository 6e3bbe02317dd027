use Rattle.std.proofs.Common.{◌≡◌, length, ◌≤◌}
use Rattle.pec_outside.specs.Flow.{Wrote}
use Rattle.pec_outside.proofs.writing.write_all.Given as goal

abbrev pub invariant-loop-rest : goal.invariant-loop-rest
invariant-loop-rest g l = let port = g.W.Stream in let counts = g.W.Counted in record {
  wrote : Wrote (port.held l.fn.out) (port.held l.out) l.fn.bytes l.rest;
  kept : port.left l.out ≡ port.left l.fn.out;
  later : counts.faults l.fn.out ≤ counts.faults l.out;
}

abbrev pub decreases-loop-rest : goal.decreases-loop-rest
decreases-loop-rest g l = length l.rest
