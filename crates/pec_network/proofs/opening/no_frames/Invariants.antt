use Rattle.std.proofs.Common.{◌≡◌, [], replicate}
use Rattle.pec_network.proofs.opening.no_frames.Given as goal

abbrev pub invariant-loop : goal.invariant-loop
invariant-loop l = l.arrivals.items ≡ replicate l.counter (replicate l.count [])
