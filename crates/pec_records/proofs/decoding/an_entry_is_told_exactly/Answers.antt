use Rattle.pec_records.proofs.EntryLemmas.{told_exactly}
use Rattle.pec_records.proofs.decoding.an_entry_is_told_exactly.Goals as goal

pub returns : goal.returns
returns c = told_exactly c.lower_addresses_pass.ensures c.each_cause_is_one_of_all.ensures.place
