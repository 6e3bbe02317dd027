-- The first `;` of all is the first one among the bytes that are left, as many places further on.
use Rattle.std.proofs.Common.{◌≡◌, ◌+◌, drop, false}
use Rattle.std.specs.Option.{option_map}
use Rattle.pec_bodies.specs.ParametersReading.{semicolon_from}
use Rattle.pec_bodies.proofs.parameters.semicolon.Given as goal

abbrev pub invariant-loop-i : goal.invariant-loop-i
invariant-loop-i l = option_map (λ k. l.i + k) (semicolon_from l.quoted (drop l.i l.text)) ≡ semicolon_from false l.text
