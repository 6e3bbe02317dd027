-- The law of the round trip, from the lemmas.
use Rattle.pec_input.proofs.DirectoryLemmas.{read_again}
use Rattle.pec_input.proofs.directory.a_directory_is_read_from_its_ldif.Goals as goal

pub returns : goal.returns
returns c =
    read_again c.a_directory_is_of_one_form.ensures c.what_is_written_is_read.ensures.first
    c.what_is_written_is_read.ensures.read
