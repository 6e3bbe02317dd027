use Rattle.std.proofs.Common.{◌-◌}
use Rattle.pec_shelf.proofs.drawers.Drawers.+count_between.Given as goal

abbrev pub decreases-count_between : goal.decreases-count_between
decreases-count_between g l = l.high - l.low
