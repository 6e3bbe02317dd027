use Rattle.std.proofs.Common.{◌≡◌, [], replicate}
use Rattle.pec_posts.proofs.arrivals.Arrivals.new.Given as goal

abbrev pub invariant-loop : goal.invariant-loop
invariant-loop l = l.links.items ≡ replicate l.counter []
