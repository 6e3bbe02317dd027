-- What is read is within the limits of frames.
use Rattle.pec_reception.proofs.FrameLemmas.{reads_within}
use Rattle.pec_reception.proofs.framed.unframed.Goals as goal

pub returns-in-Ok-clause-within : goal.returns-in-Ok-clause-within
returns-in-Ok-clause-within c = reads_within c.args.frame.now c.in-Ok.path.items c.in-Ok.place
    c.in-Ok.ensures.reads.value
