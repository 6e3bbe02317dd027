-- The bytes so far are no control bytes, or one of them is.
use Rattle.std.proofs.Common.{◌≡◌, not, take}
use Rattle.std.specs.List.{list_all}
use Rattle.pec_heads.specs.Heads.{is_control}
use Rattle.pec_heads.proofs.reading.is_plain.Given as goal

abbrev pub invariant-loop-byte : goal.invariant-loop-byte
invariant-loop-byte l = l.plain ≡ list_all (λ b. not (is_control b)) (take l.byte-index l.line)
