-- The decisions row by row, from the lemmas.
use Rattle.pec_ledger.proofs.DecisionLemmas.{mailbox_full, no_mailbox, placed}
use Rattle.pec_ledger.proofs.tables.the_decisions.Goals as goal

pub returns : goal.returns
returns c = record { no_mailbox = no_mailbox; mailbox_full = mailbox_full; placed = placed }
