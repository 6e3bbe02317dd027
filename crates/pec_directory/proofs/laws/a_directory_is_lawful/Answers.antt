-- The law, from the tie of tables and walk.
use Rattle.pec_directory.proofs.laws.a_directory_is_lawful.Goals as goal

pub returns : goal.returns
returns c = λ text providers is. (((c.a_directory_is_told_exactly.ensures text).value providers).0 is).lawful
