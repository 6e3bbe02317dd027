use Rattle.pec_chronicle.proofs.ReadingLemmas.{begin_alike}
use Rattle.pec_chronicle.proofs.laws.texts_are_of_one_list.Goals as goal

pub returns : goal.returns
returns c = begin_alike c.one_entry.ensures.value
