use Rattle.std.proofs.Common.{length}
use Rattle.pec_rows.proofs.RowLemmas.{IsFar}
use Rattle.pec_rows.proofs.rows.Putters.put_all.Given as goal

abbrev pub invariant-loop-frames : goal.invariant-loop-frames
invariant-loop-frames l = IsFar l.fn.self l.fn.out.items l.self-inside.ends.items l.out.items

abbrev pub decreases-loop-frames : goal.decreases-loop-frames
decreases-loop-frames l = length l.out.items
