use Rattle.pec_http_head.proofs.EndLemmas.{one_end}
use Rattle.pec_http_head.proofs.laws.a_head_ends_in_one_place.Goals as goal

pub returns : goal.returns
returns c = one_end
