-- Refusals of upgrades, from the lemmas.
use Rattle.pec_plays.proofs.RefusalLemmas.{upgrades, upgrades_back, upgrades_down, upgrades_no_need, upgrades_no_room}
use Rattle.pec_plays.proofs.refusals.upgrades_are_refused_in_order.Goals as goal

pub returns : goal.returns
returns c = record {
  down = upgrades_down;
  clock_back = upgrades_back;
  no_need = upgrades_no_need;
  journal_full = upgrades_no_room;
  done = upgrades;
}
