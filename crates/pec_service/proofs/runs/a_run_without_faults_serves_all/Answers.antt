use Rattle.pec_service.proofs.RunLemmas.{serves_all}
use Rattle.pec_service.proofs.runs.a_run_without_faults_serves_all.Goals as goal

pub returns : goal.returns
returns g c = λ asked status unread before after depot left here there old new ran form begins is_form at_hand none.
    serves_all asked status unread before after _ _ _ here there old new ran.served form begins is_form at_hand none ran.blame
