use Rattle.pec_records.proofs.LengthLemmas.{short_entry}
use Rattle.pec_records.proofs.laws.an_entry_within_the_limits_is_short.Goals as goal

pub returns : goal.returns
returns c = short_entry
