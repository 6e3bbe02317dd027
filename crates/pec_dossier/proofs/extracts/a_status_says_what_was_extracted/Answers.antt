-- What statuses say: from the lemmas.
use Rattle.pec_dossier.proofs.ExtractLemmas.{complete_so, done_so, failing_so, faulted_so, long_so, refused_so, status_so, stopped_so}
use Rattle.pec_dossier.proofs.ExtractLemmas.{unfit_so, whole_so}
use Rattle.pec_dossier.proofs.extracts.a_status_says_what_was_extracted.Goals as goal

pub returns : goal.returns
returns g c =
    let tells = g.P.Depot.tells × g.P.D.Disk.tells in
    let sight = g.P.D.Disk.sight in
    let faults = g.P.D.Counted.faults in
    record {
      done = λ text_of header range unread before after depot left from upto ran.
          done_so text_of header tells sight faults range before after (g.P.Depot.home depot) (g.P.Depot.home left) from upto
          unread ran;
      faulted = λ text_of header range status unread before after depot left from upto is ran.
          faulted_so text_of header tells sight faults range before after (g.P.Depot.home depot) (g.P.Depot.home left) from
          upto status unread is ran;
      refused = λ text_of header range unread before after depot left from upto ran.
          refused_so text_of header tells sight faults range before after (g.P.Depot.home depot) (g.P.Depot.home left) from
          upto unread ran;
      too_long = λ text_of header range unread before after depot left from upto ran.
          long_so text_of header tells sight faults range before after (g.P.Depot.home depot) (g.P.Depot.home left) from upto
          unread ran;
      not_fit = λ text_of header range unread before after depot left from upto ran.
          unfit_so text_of header tells sight faults range before after (g.P.Depot.home depot) (g.P.Depot.home left) from upto
          unread ran;
      not_opened = λ text_of header range unread before after depot left from upto ran.
          failing_so text_of header tells sight faults range before after (g.P.Depot.home depot) (g.P.Depot.home left) from
          upto unread ran;
      stopped = λ text_of header range unread before after depot left from upto ran.
          stopped_so text_of header tells sight faults range before after (g.P.Depot.home depot) (g.P.Depot.home left) from
          upto unread ran;
      no_other = λ text_of header range status unread before after depot left from upto ran.
          status_so text_of header tells sight faults range before after (g.P.Depot.home depot) (g.P.Depot.home left) from upto
          status unread ran;
      whole = λ text_of header range status text before after depot left old new ran none short providers reads fit.
          whole_so text_of header tells sight faults range before after (g.P.Depot.home depot) (g.P.Depot.home left) old new none
          text short providers reads status ran fit;
      complete = λ told text_of header range status text before after depot left old new ran none short providers reads can.
          complete_so text_of header tells sight faults range before after (g.P.Depot.home depot) (g.P.Depot.home left) old new
          none text short providers reads told status ran can;
    }
