-- The law of written parameters, from the lemmas and the law of blanks.
use Rattle.pec_bodies.proofs.WrittenLaws.{written_is_read}
use Rattle.pec_bodies.proofs.parameters.a_written_parameter_is_read.Goals as goal

pub returns : goal.returns
returns c = written_is_read c.blanks_are_cut_at_both_ends.ensures.only
