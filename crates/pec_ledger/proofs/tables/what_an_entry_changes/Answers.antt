-- What an entry adds is computed.
use Rattle.std.proofs.Common.{refl}
use Rattle.pec_ledger.proofs.tables.what_an_entry_changes.Goals as goal

pub returns : goal.returns
returns c = record {
  start = λ trade provider half number digest. refl;
  accepted = λ trade provider half moment sender message. refl;
  not_accepted = λ trade provider half moment sender cause path message. refl;
  took = λ trade provider half moment id message. refl;
  placed = λ trade provider half moment id recipient. refl;
  refused = λ trade provider half moment id recipient refusal. refl;
  charged = λ trade provider half moment id by. refl;
  learned = λ trade provider half moment id recipient decision decided message. refl;
  acked = λ trade provider half moment id recipient. refl;
  ticked = λ trade provider half moment. refl;
  anomaly = λ trade provider half moment accounts message. refl;
  start_two = λ trade provider half number digest. refl;
  upgraded = λ trade provider half moment. refl;
  archived = λ trade provider half moment account place. refl;
}
