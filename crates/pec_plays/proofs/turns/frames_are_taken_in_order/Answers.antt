-- Frames that are taken: from the lemmas.
use Rattle.pec_plays.proofs.TurnLemmas.{taken_left, taken_twice}
use Rattle.pec_plays.proofs.turns.frames_are_taken_in_order.Goals as goal

pub returns : goal.returns
returns c = record { left = taken_left; more = taken_twice }
