use Rattle.std.proofs.Common.{refl}
use Rattle.pec_chronicle.specs.Fields.{disk_in}
use Rattle.pec_chronicle.proofs.StepLemmas.{carries_appended, carries_interrupted}
use Rattle.pec_chronicle.proofs.chronicle.Chronicle.append.Goals as goal

pub returns-in-Ok-clause-carries : goal.returns-in-Ok-clause-carries
returns-in-Ok-clause-carries g c tells =
    let up = rw (← c.self.view_is) at c.requires.up in
    rw (← c.self.view_is) (carries_appended g.D.Disk.sight _ _ c.args.entry c.self.invariant.past.written c.bytes.ensures.can
    (λ texts keeps. rw c.bytes.ensures.text at (c.append.ensures.any_moment tells texts keeps))
    up c.and-self-inside.ensures (c.self.invariant.whole up)
    (λ texts keeps. rw c.bytes.ensures.text at (c.in-Ok.ensures.ok tells texts keeps)))

pub returns-in-Err-DiskFault-clause-carries : goal.returns-in-Err-DiskFault-clause-carries
returns-in-Err-DiskFault-clause-carries g c tells =
    let up = rw (← c.self.view_is) at c.requires.up in
    rw (← c.self.view_is) (carries_interrupted g.D.Disk.sight _ _ c.args.entry c.self.invariant.past.written c.bytes.ensures.can
    (λ texts keeps. rw c.bytes.ensures.text at (c.append.ensures.any_moment tells texts keeps))
    up refl refl refl (c.a_disk_is_so.ensures.counts tells (disk_in c.append.new.self)))

pub returns-in-Ok-clause-grows : goal.returns-in-Ok-clause-grows
returns-in-Ok-clause-grows g c tells within =
    rw (← c.self.view_is) (rw c.bytes.ensures.text at (c.append.ensures.grows tells (rw (← c.self.view_is) at within)))

pub returns-in-Err-DiskFault-clause-grows : goal.returns-in-Err-DiskFault-clause-grows
returns-in-Err-DiskFault-clause-grows g c tells within =
    rw (← c.self.view_is) (rw c.bytes.ensures.text at (c.append.ensures.grows tells (rw (← c.self.view_is) at within)))
