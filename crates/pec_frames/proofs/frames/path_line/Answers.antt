-- An address more was put.
use Rattle.pec_frames.proofs.WritingLemmas.{put_more}
use Rattle.pec_frames.proofs.frames.path_line.Goals as goal

pub loop-rest-preserved : goal.loop-rest-preserved
loop-rest-preserved c =
    put_more c.args.path.now c.loop-rest.rest.now c.loop-rest.line.items c.put_address.new.line.items c.address-item.result c.is_empty.result c.loop-rest.invariant
    c.in-len1-up.len_at_least c.address-item.is c.is_empty.ensures c.in_ok-put_address.ensures.line c.in_ok-put_address.ensures.lower
