-- Fronts of turns, from the lemmas.
use Rattle.pec_plays.proofs.SoundLemmas.{cut_has_front, cut_is_front}
use Rattle.pec_plays.proofs.soundness.a_cut_turn_is_a_front.Goals as goal

pub returns : goal.returns
returns c = record { events = cut_is_front; journals = cut_has_front }
