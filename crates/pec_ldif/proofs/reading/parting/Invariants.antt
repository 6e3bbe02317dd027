-- The first of all is that of the lines that are left, as many places further on.
use Rattle.std.proofs.Common.{◌≡◌, ◌+◌, drop}
use Rattle.std.specs.Option.{option_map}
use Rattle.pec_ldif.specs.RecordsReading.{parting_at}
use Rattle.pec_ldif.proofs.reading.parting.Given as goal

abbrev pub invariant-loop-i : goal.invariant-loop-i
invariant-loop-i l = option_map (λ k. l.i + k) (parting_at (drop l.i l.lines)) ≡ parting_at l.lines
