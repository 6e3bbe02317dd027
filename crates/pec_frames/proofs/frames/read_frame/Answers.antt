-- What was read is what `framed_of` tells, and so what the text is.
use Rattle.pec_frames.proofs.ReadingLaws.{frame_reads}
use Rattle.pec_frames.proofs.frames.read_frame.Goals as goal

pub returns : goal.returns
returns c = record {
  reads = frame_reads (λ read. (read.0.items, read.1)) c.args.frame.now c.read_text.result (c.a_text_is_one_frame.ensures c.args.frame.now) c.read_text.ensures;
  exact = c.read_text.ensures;
}
