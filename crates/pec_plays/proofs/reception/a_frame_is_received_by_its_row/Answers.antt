-- The rows of reception, from the lemmas.
use Rattle.pec_plays.proofs.ReceptionLemmas.{are_accounts, no_frame, row_says}
use Rattle.pec_plays.proofs.reception.a_frame_is_received_by_its_row.Goals as goal

pub returns : goal.returns
returns c = record { no_frame = no_frame; row = row_says; accounts = are_accounts }
