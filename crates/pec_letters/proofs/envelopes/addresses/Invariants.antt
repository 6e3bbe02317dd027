-- What was added and what is left to add are together all.
use Rattle.std.proofs.Common.{◌≡◌, ◌++◌, map, length}
use Rattle.pec_heads.specs.BoundedFacts.{addresses_where}
use Rattle.pec_letters.specs.Envelopes.{is_of}
use Rattle.pec_letters.proofs.envelopes.addresses.Given as goal

abbrev pub invariant-loop-rest : goal.invariant-loop-rest
invariant-loop-rest l = map (λ address. address.now) l.all.items ++ addresses_where (is_of l.class) l.rest ≡ addresses_where (is_of l.class) l.recipients

abbrev pub decreases-loop-rest : goal.decreases-loop-rest
decreases-loop-rest l = length l.rest
