use Rattle.pec_dossier.proofs.StatusLemmas.{done_so, ended_so, no_other, stopped_so, whole_so}
use Rattle.pec_dossier.proofs.TellingLemmas.{counted_in}
use Rattle.pec_dossier.proofs.laws.a_status_says_what_was_checked.Goals as goal

pub returns : goal.returns
returns c = record {
  done = λ unread before after ran. done_so unread before after ran;
  ended = λ status unread before after which ran. ended_so unread before after status which ran;
  stopped = λ status unread before after which ran. stopped_so unread before after status which ran;
  no_other = λ status unread before after ran. no_other unread before after status ran;
  whole = λ status text before after old new ran none. whole_so status text before after old new ran none;
  counted = λ providers messages. counted_in providers messages;
}
