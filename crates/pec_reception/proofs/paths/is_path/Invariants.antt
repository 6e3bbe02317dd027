-- What is left of both is alike where all of both is.
use Rattle.std.proofs.Common.{◌≡◌, length}
use Rattle.pec_plays.specs.Reception.{same_path}
use Rattle.pec_reception.proofs.paths.is_path.Given as goal

abbrev pub invariant-loop-rest : goal.invariant-loop-rest
invariant-loop-rest l = same_path l.rest l.others ≡ same_path l.path l.other

abbrev pub decreases-loop-rest : goal.decreases-loop-rest
decreases-loop-rest l = length l.rest
