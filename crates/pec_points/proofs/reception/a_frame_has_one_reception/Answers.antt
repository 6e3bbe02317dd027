-- The law of reception, from the lemmas.
use Rattle.pec_points.proofs.ReceptionLemmas.{some_row, one_row, reception_says}
use Rattle.pec_points.proofs.reception.a_frame_has_one_reception.Goals as goal

pub returns : goal.returns
returns c = record { some = some_row; one = one_row; function = reception_says }
