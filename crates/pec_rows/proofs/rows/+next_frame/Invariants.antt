use Rattle.std.proofs.Common.{length}
use Rattle.pec_rows.proofs.rows.+next_frame.Given as goal

abbrev pub decreases-next_frame : goal.decreases-next_frame
decreases-next_frame l = length l.ends.now
