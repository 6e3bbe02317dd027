use Rattle.pec_words.proofs.PathLemmas.{one_path, one_reading}
use Rattle.pec_words.proofs.laws.a_path_has_one_reading.Goals as goal

pub returns : goal.returns
returns c = record { parts = one_path c.an_address_is_told_exactly.ensures; text = one_reading c.an_address_is_told_exactly.ensures }
