-- What is answered at each return is `decision_of`, and so what the first row decides.
use Rattle.std.proofs.Common.{rules, tests}
use Rattle.pec_points.specs.DecisionReading.{decision_of}
use Rattle.pec_points.proofs.DecisionLemmas.{decision_is}
use Rattle.pec_points.proofs.decision.decide.Goals as goal

pub returns-then-not-account-clause-row : goal.returns-then-not-account-clause-row
unfolding decision_of
returns-then-not-account-clause-row c = decision_is _ _ (search (rules, tests))

pub returns-then-virus-clause-row : goal.returns-then-virus-clause-row
unfolding decision_of
returns-then-virus-clause-row c = decision_is _ _ (search (rules, tests))

pub returns-then-count-quota-clause-row : goal.returns-then-count-quota-clause-row
unfolding decision_of
returns-then-count-quota-clause-row c = decision_is _ _ (search (rules, tests))

pub returns-clause-row : goal.returns-clause-row
unfolding decision_of
returns-clause-row c = decision_is _ _ (search (rules, tests))
