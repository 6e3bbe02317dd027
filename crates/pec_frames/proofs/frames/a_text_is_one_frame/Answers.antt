-- The law of frames, from the lemmas.
use Rattle.pec_frames.proofs.ReadingLaws.{frame_told}
use Rattle.pec_frames.proofs.frames.a_text_is_one_frame.Goals as goal

pub returns : goal.returns
returns c = frame_told c.an_address_is_told_exactly.ensures
