-- What boxes hold: from the lemmas.
use Rattle.pec_ledger.proofs.BoxLemmas.{archive_placed, held, mailbox_placed}
use Rattle.pec_ledger.proofs.boxes.boxes_hold_what_was_placed.Goals as goal

pub returns : goal.returns
returns c = record { together = held; mailboxes = mailbox_placed; archives = archive_placed }
