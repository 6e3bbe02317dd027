use Rattle.pec_input.proofs.PartsLemmas.{are_parts, parts_are}
use Rattle.pec_input.proofs.laws.an_input_is_parted_in_one_way.Goals as goal

pub returns : goal.returns
returns c = λ text parts. (parts_are text parts, are_parts text parts)
