-- What a run leaves: from the lemmas.
use Rattle.pec_runs.proofs.LeavingLemmas.{leaves_journals, leaves_opened}
use Rattle.pec_runs.proofs.leaving.a_run_leaves_its_journals.Goals as goal

pub returns : goal.returns
returns g c = record {
  journals = λ words status unread before after depot left old new ran form script begun not_out p bytes l found.
      leaves_journals words status unread before after _ _ _ old new ran form script begun (λ e f. not_out e) p bytes l
      found;
  no_further_entry = λ words status unread before after depot left old new ran form script begun not_all p journal bytes
      there found.
      leaves_opened words status unread before after _ _ _ old new ran form script begun not_all p journal bytes there
      found;
}
