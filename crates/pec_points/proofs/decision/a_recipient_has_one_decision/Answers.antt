-- The law of decisions, from the lemmas.
use Rattle.pec_points.proofs.DecisionLemmas.{some_row, one_row, decision_says}
use Rattle.pec_points.proofs.decision.a_recipient_has_one_decision.Goals as goal

pub returns : goal.returns
returns c = record { some = some_row; one = one_row; function = decision_says }
