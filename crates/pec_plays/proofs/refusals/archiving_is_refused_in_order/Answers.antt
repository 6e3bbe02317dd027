-- Refusals of archiving, from the lemmas.
use Rattle.pec_plays.proofs.RefusalLemmas.{archives, archives_back, archives_down, archives_no_item, archives_no_room, archives_nowhere, archives_old}
use Rattle.pec_plays.proofs.refusals.archiving_is_refused_in_order.Goals as goal

pub returns : goal.returns
returns c = record {
  no_account = λ trade luck sites now account place home. archives_nowhere trade luck sites 0 now account place home;
  down = archives_down;
  clock_back = archives_back;
  no_item = archives_no_item;
  old_journal = archives_old;
  journal_full = archives_no_room;
  done = archives;
}
