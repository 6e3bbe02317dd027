-- The first of all is that of the bytes that are left, as many places further on.
use Rattle.std.proofs.Common.{◌≡◌, ◌+◌, drop}
use Rattle.std.specs.Option.{option_map}
use Rattle.pec_ldif.specs.AttributesReading.{colon_at}
use Rattle.pec_ldif.proofs.attributes.colon.Given as goal

abbrev pub invariant-loop-i : goal.invariant-loop-i
invariant-loop-i l = option_map (λ k. l.i + k) (colon_at (drop l.i l.bytes)) ≡ colon_at l.bytes
