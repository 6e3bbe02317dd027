use Rattle.pec_service.proofs.ConnectionLemmas.{replies_are}
use Rattle.pec_service.proofs.replies.a_connection_has_one_reply.Goals as goal

pub returns : goal.returns
returns g c = λ trade kept here all replies are told. replies_are trade _ kept here all replies are told
