-- What was added and the lines that are left are together all of them.
use Rattle.std.proofs.Common.{◌≡◌, ◌++◌, map, length}
use Rattle.pec_letter_parts.specs.Contents.{lines_text}
use Rattle.pec_letter_parts.proofs.contents.join_lines.Given as goal

abbrev pub invariant-loop-rest : goal.invariant-loop-rest
invariant-loop-rest l = l.text.items ++ lines_text (map (λ line. line.now) l.rest) ≡ lines_text (map (λ line. line.now) l.lines)

abbrev pub decreases-loop-rest : goal.decreases-loop-rest
decreases-loop-rest l = length l.rest
