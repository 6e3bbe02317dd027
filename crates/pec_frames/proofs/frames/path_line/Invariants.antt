-- What was put and the addresses that are left are together all of them, and what was put is in lower case.
use Rattle.std.proofs.Common.{length}
use Rattle.pec_frames.proofs.WritingLemmas.{IsPut}
use Rattle.pec_frames.proofs.frames.path_line.Given as goal

abbrev pub invariant-loop-rest : goal.invariant-loop-rest
invariant-loop-rest l = IsPut l.path l.line.items l.rest

abbrev pub decreases-loop-rest : goal.decreases-loop-rest
decreases-loop-rest l = length l.rest
