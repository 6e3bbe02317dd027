-- What is answered at each return is `due_of`, and so what the first row owes.
use Rattle.std.proofs.Common.{rules, tests}
use Rattle.pec_types.specs.LimitsReading.{due_of}
use Rattle.pec_types.proofs.LimitLemmas.{due_is}
use Rattle.pec_types.proofs.limits.timed.Goals as goal

pub returns-then-known-clause-row : goal.returns-then-known-clause-row
unfolding due_of
returns-then-known-clause-row c = due_is _ _ (search (rules, tests))

pub returns-then-past-gt-LATE_AFTER-clause-row : goal.returns-then-past-gt-LATE_AFTER-clause-row
unfolding due_of
returns-then-past-gt-LATE_AFTER-clause-row c = due_is _ _ (search (rules, tests))

pub returns-then-past-ge-NOTICE_AFTER-clause-row : goal.returns-then-past-ge-NOTICE_AFTER-clause-row
unfolding due_of
returns-then-past-ge-NOTICE_AFTER-clause-row c = due_is _ _ (search (rules, tests))

pub returns-then-past-ge-WARNING_AFTER-clause-row : goal.returns-then-past-ge-WARNING_AFTER-clause-row
unfolding due_of
returns-then-past-ge-WARNING_AFTER-clause-row c = due_is _ _ (search (rules, tests))

pub returns-clause-row : goal.returns-clause-row
unfolding due_of
returns-clause-row c = due_is _ _ (search (rules, tests))
