-- The law of directories, from the lemmas.
use Rattle.pec_input.proofs.DirectoryLemmas.{one_form}
use Rattle.pec_input.proofs.directory.a_directory_is_of_one_form.Goals as goal

pub returns : goal.returns
returns c = one_form c.an_ldif_directory_is_told_exactly.ensures c.a_directory_is_told_exactly.ensures
