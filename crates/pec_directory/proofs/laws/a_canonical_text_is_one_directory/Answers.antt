use Rattle.pec_directory.proofs.CanonicalLemmas.{one_directory}
use Rattle.pec_directory.proofs.laws.a_canonical_text_is_one_directory.Goals as goal

pub returns : goal.returns
returns c = one_directory record { each = c.printable_is_said_of_each_byte.ensures.each; address = c.printable_is_said_of_each_byte.ensures.address }
