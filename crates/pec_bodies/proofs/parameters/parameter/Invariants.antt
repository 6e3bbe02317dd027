-- The parameter that is looked for stands in the pieces behind the next `;`.
use Rattle.std.proofs.Common.{◌≡◌, ◌≤◌, length, false}
use Rattle.pec_bodies.specs.ParametersReading.{behind_first, first_named, pieces_from}
use Rattle.pec_bodies.proofs.parameters.parameter.Given as goal

abbrev pub invariant-loop-at : goal.invariant-loop-at
invariant-loop-at l = record {
  read : first_named l.name (behind_first (pieces_from false l.rest)) ≡ first_named l.name (behind_first (pieces_from false l.value));
  within : length l.rest ≤ length l.value;
}

abbrev pub decreases-loop-at : goal.decreases-loop-at
decreases-loop-at l = length l.rest
