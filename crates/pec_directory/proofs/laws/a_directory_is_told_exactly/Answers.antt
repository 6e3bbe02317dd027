-- The tie of tables and walk, from the lemmas.
use Rattle.pec_directory.proofs.ReadingLemmas.{told}
use Rattle.pec_directory.proofs.laws.a_directory_is_told_exactly.Goals as goal

pub returns : goal.returns
returns c = told record { told = c.an_address_is_told_exactly.ensures; lower = c.what_is_read_is_in_lower_case.ensures }
