-- What statuses say: from the lemmas.
use Rattle.std.proofs.Common.{refl}
use Rattle.pec_runs.specs.Happened.{outcome_of}
use Rattle.pec_runs.specs.Statuses as statuses
use Rattle.pec_runs.proofs.StatusLemmas.{answers_alone, done_run, has_ended, nothing_written, other_words, start_fails, tells_as}
use Rattle.pec_runs.proofs.writing.a_status_says_what_was_written.Goals as goal

pub returns : goal.returns
returns g c = record {
  read_fault = λ words unread before after depot left old new told ran.
      let so = tells_as words statuses.ReadFault unread before after _ _ _ old new ran told
      in answers_alone words statuses.ReadFault unread before after _ _ _ old new ran so.0 so.1;
  no_memory = λ words unread before after depot left old new told ran.
      let so = tells_as words statuses.NoMemory unread before after _ _ _ old new ran told
      in answers_alone words statuses.NoMemory unread before after _ _ _ old new ran so.0 so.1;
  write_fault = λ words unread before after depot left old new told ran.
      tells_as words statuses.WriteFault unread before after _ _ _ old new ran told;
  start_fault = λ words unread before after depot left old new told ran.
      let so = tells_as words statuses.StartFault unread before after _ _ _ old new ran told
      in nothing_written words statuses.StartFault unread before after _ _ _ old new ran
      (start_fails (outcome_of words ran.happened).finish so.0) so.1;
  ended = λ words status unread before after depot left old new told of ran.
      has_ended words status unread before after _ _ _ old new ran told of;
  usage = other_words;
  done = λ words unread before after depot left old new told ran.
      done_run words statuses.Done unread before after _ _ _ old new ran
      (has_ended words statuses.Done unread before after _ _ _ old new ran told tt) refl;
}
