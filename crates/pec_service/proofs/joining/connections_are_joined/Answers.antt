use Rattle.pec_service.proofs.ConnectionLemmas.{connection_append, lines_append, place_append}
use Rattle.pec_service.proofs.joining.connections_are_joined.Goals as goal

pub returns : goal.returns
returns g c = record {
  one = λ trade kept here all one are is. connection_append trade _ kept here all one are is;
  behind = place_append;
  text = λ trade kept here all one. lines_append trade kept here all one;
}
