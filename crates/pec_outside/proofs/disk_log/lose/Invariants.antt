use Rattle.std.proofs.Common.{◌≡◌, ◌++◌, take, drop}
use Rattle.pec_outside.specs.MemoryDisk.{crash_image}
use Rattle.pec_outside.proofs.disk_log.lose.Given as goal

abbrev pub invariant-loop-at : goal.invariant-loop-at
invariant-loop-at l = crash_image l.pending l.fn.kept 0 l.fn.bytes ≡ take l.at l.bytes ++ crash_image l.pending l.kept l.at (drop l.at l.bytes)
