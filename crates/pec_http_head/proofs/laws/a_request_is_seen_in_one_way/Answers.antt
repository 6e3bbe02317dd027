use Rattle.pec_http_head.proofs.SeenLemmas.{one_request, one_seen}
use Rattle.pec_http_head.proofs.laws.a_request_is_seen_in_one_way.Goals as goal

pub returns : goal.returns
returns c = record { head = one_request; seen = one_seen }
