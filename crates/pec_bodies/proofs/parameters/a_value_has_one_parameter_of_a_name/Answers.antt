-- The law of parameters, from the lemmas.
use Rattle.pec_bodies.proofs.BoundaryLaws.{boundary_is, no_boundary_is}
use Rattle.pec_bodies.proofs.ParameterLaws.{nothing_is, parameter_is}
use Rattle.pec_bodies.proofs.parameters.a_value_has_one_parameter_of_a_name.Goals as goal

pub returns : goal.returns
returns c = record { found = parameter_is; none = nothing_is; boundary = boundary_is; no_boundary = no_boundary_is }
