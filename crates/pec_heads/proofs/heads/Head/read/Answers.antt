-- What was read is what `read_of` tells, and so what the text is.
use Rattle.pec_types.specs.Answers.{told_is_read}
use Rattle.pec_heads.proofs.ReadingLaws.{head_told, place_within}
use Rattle.pec_heads.proofs.heads.Head.read.Goals as goal

pub returns : goal.returns
returns c =
    let reads = told_is_read _ _ _ _ _ (head_told c.args.message.now) c.read_head.ensures
    in record { reads = reads; exact = c.read_head.ensures; within = place_within c.args.message.now c.read_head.result reads.value }
