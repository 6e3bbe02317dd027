use Rattle.std.proofs.Common.{refl, arith}
use Rattle.pec_outside.proofs.LogLemmas.{goes}
use Rattle.pec_outside.proofs.disk_log.DiskLog.look.Goals as goal

pub returns : goal.returns
returns c = goes _ _ _ _ refl c.push_reserved.ensures.items c.requires.log.bytes c.requires.log.pending
    (λ pending. omega (arith, c.push_reserved.ensures.len, c.push_reserved.ensures.capacity, c.requires.room.steps))
