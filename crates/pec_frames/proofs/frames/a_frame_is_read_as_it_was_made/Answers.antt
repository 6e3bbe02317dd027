-- The law of frames that were made, from the lemmas.
use Rattle.pec_frames.specs.Frames.{path_line}
use Rattle.pec_frames.proofs.MadeLaws.{made_is_frame, made_of_one, message_behind}
use Rattle.pec_frames.proofs.frames.a_frame_is_read_as_it_was_made.Goals as goal

pub returns : goal.returns
returns c = record {
  path = made_is_frame c.lower_addresses_pass.ensures;
  message = λ path message. message_behind (path_line path) message;
  one = made_of_one c.an_address_is_told_exactly.ensures c.lower_addresses_pass.ensures;
}
