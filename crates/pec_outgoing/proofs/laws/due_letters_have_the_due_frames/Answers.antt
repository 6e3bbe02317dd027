-- The frames of the due letters: from the lemmas.
use Rattle.pec_plays.specs.Frames.{frame_of}
use Rattle.pec_outgoing.proofs.DueLemmas.{frames_due, one_more}
use Rattle.pec_outgoing.proofs.laws.due_letters_have_the_due_frames.Goals as goal

pub returns : goal.returns
returns c = record {
  due = frames_due;
  more = λ trade me journal done letter. one_more (frame_of trade me journal) done letter;
}
