-- What was put and the addresses that are left are together all of them.
use Rattle.std.proofs.Common.{◌≡◌, ◌++◌, map, length}
use Rattle.pec_heads.specs.WrittenHeads.{folded_from}
use Rattle.pec_heads.proofs.writing.put_lines.Given as goal

abbrev pub invariant-loop-rest : goal.invariant-loop-rest
invariant-loop-rest l = l.out.items ++ folded_from (map (λ address. address.now) l.rest) ≡ l.fn.out.items ++ folded_from (map (λ address. address.now) l.addresses)

abbrev pub decreases-loop-rest : goal.decreases-loop-rest
decreases-loop-rest l = length l.rest
