-- What statuses say: from the lemmas.
use Rattle.pec_dossier.proofs.ExportLemmas.{done_so, long_so, refused_so, status_so, stopped_so, whole_so}
use Rattle.pec_dossier.proofs.exports.a_status_says_what_was_exported.Goals as goal

pub returns : goal.returns
returns c = record {
  done = λ text_of unread before after ran. done_so text_of before after unread ran;
  refused = λ text_of unread before after ran. refused_so text_of before after unread ran;
  too_long = λ text_of unread before after ran. long_so text_of before after unread ran;
  stopped = λ text_of status unread before after is ran. stopped_so text_of before after status unread is ran;
  no_other = λ text_of status unread before after ran. status_so text_of before after status unread ran;
  whole = λ text_of status text before after old new ran none short providers reads.
      whole_so text_of before after old new none text short providers reads status ran;
}
