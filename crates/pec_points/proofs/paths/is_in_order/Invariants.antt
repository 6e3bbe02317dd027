-- What is left of both is alike where all of both is.
use Rattle.std.proofs.Common.{◌≡◌, length}
use Rattle.pec_points.specs.Known.{is_in_order}
use Rattle.pec_points.proofs.paths.is_in_order.Given as goal

abbrev pub invariant-loop-rest : goal.invariant-loop-rest
invariant-loop-rest l = is_in_order l.rest l.others ≡ is_in_order l.path l.recipients

abbrev pub decreases-loop-rest : goal.decreases-loop-rest
decreases-loop-rest l = length l.rest
