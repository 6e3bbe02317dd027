use Rattle.std.proofs.Common.{◌≡◌, ◌++◌, drop}
use Rattle.std.specs.Prelude.{map}
use Rattle.pec_outside.specs.DiskLog.{IsLog, step_of, steps_of}
use Rattle.pec_outside.specs.MemoryDisk.{front_of}
use Rattle.pec_outside.proofs.disk_log.DiskLog.front.Given as goal

abbrev pub invariant-loop-step : goal.invariant-loop-step
invariant-loop-step l = record {
  log : IsLog l.log;
  front : front_of l.fn.calls (steps_of l.fn.self) ≡ steps_of l.log ++ front_of l.left (map step_of (drop l.step-index l.step-items));
}
