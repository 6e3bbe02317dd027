-- The lines that were read and those of what is left are together all of them.
use Rattle.std.proofs.Common.{◌≡◌, ◌+◌, ◌++◌, length}
use Rattle.pec_ldif.specs.LinesReading.{kept, left_from}
use Rattle.pec_ldif.proofs.lines.read_lines.Given as goal

abbrev pub invariant-loop-rest : goal.invariant-loop-rest
invariant-loop-rest l =
    (l.lines.items ++ kept (left_from l.at l.rest) ≡ kept (left_from 0 l.text)) × (l.at + length l.rest ≡ length l.text)

abbrev pub decreases-loop-rest : goal.decreases-loop-rest
decreases-loop-rest l = length l.rest
