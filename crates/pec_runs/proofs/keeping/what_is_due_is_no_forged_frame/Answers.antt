-- What is due is no forged frame: from the lemmas.
use Rattle.pec_runs.proofs.KeptLemmas.{honest_run}
use Rattle.pec_runs.proofs.LineLemmas.{all_honest}
use Rattle.pec_runs.proofs.keeping.what_is_due_is_no_forged_frame.Goals as goal

pub returns : goal.returns
returns g c = record {
  scripts = all_honest;
  runs = λ asked status unread before after depot left old new told ran form script begun all none.
      honest_run asked status unread before after _ _ _ old new ran told form script begun all none;
}
