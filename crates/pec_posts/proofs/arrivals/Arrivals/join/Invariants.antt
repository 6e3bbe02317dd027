use Rattle.pec_posts.proofs.JoinLemmas.{IsJoinedSoFar}
use Rattle.pec_posts.proofs.arrivals.Arrivals.join.Given as goal

abbrev pub invariant-loop-taker : goal.invariant-loop-taker
invariant-loop-taker l = IsJoinedSoFar l.fn.rows l.fn.takers l.rows l.links l.taker-iterator.rest.items
