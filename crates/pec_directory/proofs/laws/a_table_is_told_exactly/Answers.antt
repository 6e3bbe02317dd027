-- The tie of tables and walk, from the lemmas.
use Rattle.pec_directory.proofs.ReadingLemmas.{looks_up, tables_told}
use Rattle.pec_directory.proofs.laws.a_table_is_told_exactly.Goals as goal

pub returns-clause-told : goal.returns-clause-told
returns-clause-told c = tables_told record { told = c.an_address_is_told_exactly.ensures; lower = c.what_is_read_is_in_lower_case.ensures }

pub returns-clause-looks_up : goal.returns-clause-looks_up
returns-clause-looks_up c = looks_up
