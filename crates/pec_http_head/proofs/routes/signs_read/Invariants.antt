use Rattle.std.proofs.Common.{◌≡◌, ◌++◌, length}
use Rattle.pec_http_head.specs.Routes.{signs_read}
use Rattle.pec_http_head.proofs.routes.signs_read.Given as goal

abbrev pub invariant-loop-rest : goal.invariant-loop-rest
invariant-loop-rest l = l.all.items ++ signs_read 0 l.rest ≡ signs_read 0 l.text

abbrev pub decreases-loop-rest : goal.decreases-loop-rest
decreases-loop-rest l = length l.rest
