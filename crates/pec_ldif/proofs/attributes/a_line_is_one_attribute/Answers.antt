-- The law of lines, from the lemmas.
use Rattle.pec_ldif.proofs.AttributeLemmas.{attribute_told}
use Rattle.pec_ldif.proofs.attributes.a_line_is_one_attribute.Goals as goal

pub returns : goal.returns
returns c = attribute_told
