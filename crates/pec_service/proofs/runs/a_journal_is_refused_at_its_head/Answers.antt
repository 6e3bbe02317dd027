use Rattle.pec_service.proofs.RunLemmas.{refused_at_head}
use Rattle.pec_service.proofs.runs.a_journal_is_refused_at_its_head.Goals as goal

pub returns : goal.returns
returns c = λ bytes place broken. refused_at_head bytes place broken
