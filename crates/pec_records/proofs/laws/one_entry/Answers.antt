use Rattle.pec_records.proofs.EntryLemmas.{one_value, one_text}
use Rattle.pec_records.proofs.laws.one_entry.Goals as goal

pub returns : goal.returns
returns c = record { value = one_value c.lower_addresses_pass.ensures c.each_cause_is_one_of_all.ensures.place; text = one_text }
