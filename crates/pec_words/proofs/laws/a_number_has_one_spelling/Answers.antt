use Rattle.pec_words.proofs.NumberLemmas.{one_spelling}
use Rattle.pec_words.proofs.laws.a_number_has_one_spelling.Goals as goal

pub returns : goal.returns
returns c = one_spelling
