-- What is left is behind the same empty lines.
use Rattle.std.proofs.Common.{◌≡◌, length}
use Rattle.pec_ldif.specs.RecordsReading.{skip_parting}
use Rattle.pec_ldif.proofs.reading.skip_parting.Given as goal

abbrev pub invariant-loop-rest : goal.invariant-loop-rest
invariant-loop-rest l = skip_parting l.rest ≡ skip_parting l.lines

abbrev pub decreases-loop-rest : goal.decreases-loop-rest
decreases-loop-rest l = length l.rest
