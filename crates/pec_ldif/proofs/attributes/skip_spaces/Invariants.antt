-- What is left is behind the same spaces.
use Rattle.std.proofs.Common.{◌≡◌, length}
use Rattle.pec_ldif.specs.AttributesReading.{skip_spaces}
use Rattle.pec_ldif.proofs.attributes.skip_spaces.Given as goal

abbrev pub invariant-loop-rest : goal.invariant-loop-rest
invariant-loop-rest l = skip_spaces l.rest ≡ skip_spaces l.bytes

abbrev pub decreases-loop-rest : goal.decreases-loop-rest
decreases-loop-rest l = length l.rest
