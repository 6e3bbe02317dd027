-- The first line that counts is among those that are left.
use Rattle.std.proofs.Common.{◌≡◌, length}
use Rattle.pec_ldif.specs.FirstLine.{first_said}
use Rattle.pec_ldif.specs.Lines.{raw_lines}
use Rattle.pec_ldif.proofs.first_line.is_ldif.Given as goal

abbrev pub invariant-loop-rest : goal.invariant-loop-rest
invariant-loop-rest l = first_said (raw_lines l.rest) ≡ first_said (raw_lines l.text)

abbrev pub decreases-loop-rest : goal.decreases-loop-rest
decreases-loop-rest l = length l.rest
