use Rattle.std.proofs.Common.{ap, arith, true, false}
use Rattle.pec_outside.specs.MemoryDisk.{synced}
use Rattle.pec_outside.proofs.LogLemmas.{goes}
use Rattle.pec_outside.proofs.disk_log.DiskLog.sync.Goals as goal

pub returns-then-answered : goal.returns-then-answered
returns-then-answered c = rw c.if-answered.true (goes _ _ _ (synced true) (ap synced c.if-answered.true) c.push_reserved.ensures.items c.requires.log.bytes c.clear.ensures.items
    (λ pending. omega (arith, pending, c.clear.ensures.len)))

pub returns-else-answered : goal.returns-else-answered
returns-else-answered c = rw c.if-answered.false (goes _ _ _ (synced false) (ap synced c.if-answered.false) c.push_reserved.ensures.items c.requires.log.bytes c.requires.log.pending
    (λ pending. omega (arith, c.push_reserved.ensures.len, c.push_reserved.ensures.capacity, c.requires.room.steps)))
