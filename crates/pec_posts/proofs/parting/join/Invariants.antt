use Rattle.std.proofs.Common.{length}
use Rattle.pec_posts.proofs.JoinLemmas.{AllJoinedSoFar}
use Rattle.pec_posts.proofs.parting.join.Given as goal

abbrev pub invariant-loop-tray : goal.invariant-loop-tray
invariant-loop-tray l = AllJoinedSoFar (length l.fn.rows) l.fn.rows l.fn.takers.items l.rows l.takers.items l.arrivals l.tray-iterator.rest.items
