use Rattle.std.proofs.Common.{◌≡◌, ◌++◌, drop}
use Rattle.pec_plays.specs.Rounds.{sent_from}
use Rattle.pec_network.proofs.putting.sent.Given as goal

abbrev pub invariant-loop-to : goal.invariant-loop-to
invariant-loop-to l = l.sent.items ++ sent_from l.to (drop l.to l.out) ≡ sent_from 0 l.out
