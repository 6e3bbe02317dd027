use Rattle.pec_posts.proofs.PartLemmas.{IsPartedSoFar}
use Rattle.pec_posts.proofs.arrivals.Arrivals.part.Given as goal

abbrev pub invariant-loop-link : goal.invariant-loop-link
invariant-loop-link l = IsPartedSoFar l.fn.self l.fn.rows l.rows l.takers l.link-iterator.rest.items
