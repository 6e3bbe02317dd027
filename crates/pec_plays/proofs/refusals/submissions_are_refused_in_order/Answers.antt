-- Refusals of submissions, from the lemmas.
use Rattle.pec_plays.proofs.RefusalLemmas.{no_account, submits, submits_back, submits_down, submits_full, submits_no_room}
use Rattle.pec_plays.proofs.refusals.submissions_are_refused_in_order.Goals as goal

pub returns : goal.returns
returns c = record {
  no_account = no_account;
  down = submits_down;
  clock_back = submits_back;
  full = submits_full;
  journal_full = submits_no_room;
  done = submits;
}
