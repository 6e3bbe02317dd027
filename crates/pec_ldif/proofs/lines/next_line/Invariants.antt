-- The line that was read, before what is left of the text, is the text's first line before the others.
use Rattle.std.proofs.Common.{◌≡◌, ◌+◌, ◌-◌, ◌<◌, ◌≤◌, drop, length}
use Rattle.pec_ldif.specs.Lines.{in_front}
use Rattle.pec_ldif.specs.LinesReading.{left_from}
use Rattle.pec_ldif.proofs.lines.next_line.Given as goal

abbrev pub invariant-loop-bytes : goal.invariant-loop-bytes
invariant-loop-bytes l =
    (left_from l.at l.text ≡ in_front (record { place = l.at; bytes = l.bytes.items }) (left_from (l.at + l.size) (drop l.size l.text)))
    × (0 < l.size) × (l.size ≤ length l.text)

abbrev pub decreases-loop-bytes : goal.decreases-loop-bytes
decreases-loop-bytes l = length l.text - l.size
