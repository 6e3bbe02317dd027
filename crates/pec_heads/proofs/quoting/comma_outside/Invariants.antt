-- The first comma of all is the first one among the bytes that are left, as many places further on.
use Rattle.std.proofs.Common.{◌≡◌, ◌+◌, drop}
use Rattle.std.specs.Option.{option_map}
use Rattle.pec_heads.specs.ListReading.{comma_from}
use Rattle.pec_heads.specs.declared.quoting.Quoting.TheVariants.{Outside}
use Rattle.pec_heads.proofs.quoting.comma_outside.Given as goal

abbrev pub invariant-loop-i : goal.invariant-loop-i
invariant-loop-i l = option_map (λ k. l.i + k) (comma_from l.quoting (drop l.i l.text)) ≡ comma_from Outside l.text
