-- A journal that is there survives: from the lemma.
use Rattle.pec_runs.proofs.LeavingLemmas.{survives}
use Rattle.pec_runs.proofs.leaving.a_journal_that_is_there_survives.Goals as goal

pub returns : goal.returns
returns g c = λ asked status unread before after depot left old new ran apart p was held some.
    survives asked status unread before after _ _ _ old new ran p was held some (λ e. apart e)
