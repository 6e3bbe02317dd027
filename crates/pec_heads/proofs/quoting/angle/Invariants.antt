-- The first `<` is that of the bytes that are left, as many places further on.
use Rattle.std.proofs.Common.{◌≡◌, ◌+◌, drop}
use Rattle.std.specs.Option.{option_map}
use Rattle.pec_heads.specs.ListReading.{angle_from}
use Rattle.pec_heads.specs.declared.quoting.Quoting.TheVariants.{Outside}
use Rattle.pec_heads.proofs.quoting.angle.Given as goal

abbrev pub invariant-loop-i : goal.invariant-loop-i
invariant-loop-i l = option_map (λ k. l.i + k) (angle_from l.quoting (drop l.i l.entry)) ≡ angle_from Outside l.entry
