-- The law of the time table, from the lemmas and from the law that one thing is due.
use Rattle.pec_ledger.proofs.TableLemmas.{marks_say}
use Rattle.pec_ledger.proofs.tables.the_time_table.Goals as goal

pub returns : goal.returns
returns c = λ trade provider half now mark. marks_say trade provider half c.a_pair_has_one_due.ensures.function now mark
