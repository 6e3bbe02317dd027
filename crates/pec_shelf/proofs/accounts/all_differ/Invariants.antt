use Rattle.std.proofs.Common.{◌≡◌, length}
use Rattle.pec_shelf.specs.Settled.{all_differ}
use Rattle.pec_shelf.proofs.accounts.all_differ.Given as goal

abbrev pub invariant-loop-rest : goal.invariant-loop-rest
invariant-loop-rest l = all_differ l.addresses ≡ all_differ l.rest

abbrev pub decreases-loop-rest : goal.decreases-loop-rest
decreases-loop-rest l = length l.rest
