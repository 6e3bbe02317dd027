-- The law of the time table, from the lemmas.
use Rattle.pec_types.proofs.LimitLemmas.{some_row, one_row, due_says}
use Rattle.pec_types.proofs.limits.a_pair_has_one_due.Goals as goal

pub returns : goal.returns
returns c = record { some = some_row; one = one_row; function = due_says }
