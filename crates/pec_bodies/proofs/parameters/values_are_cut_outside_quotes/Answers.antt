-- The law of pieces, from the lemmas.
use Rattle.pec_bodies.proofs.ParameterLaws.{pieces_is}
use Rattle.pec_bodies.proofs.parameters.values_are_cut_outside_quotes.Goals as goal

pub returns : goal.returns
returns c = pieces_is
