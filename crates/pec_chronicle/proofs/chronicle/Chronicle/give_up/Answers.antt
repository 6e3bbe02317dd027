use Rattle.std.proofs.Common.{refl}
use Rattle.pec_outside.specs.Moments.{stays}
use Rattle.pec_chronicle.specs.Carrying.{NothingMay}
use Rattle.pec_chronicle.specs.Fields.{disk_in}
use Rattle.pec_chronicle.proofs.StepLemmas.{carries_rested}
use Rattle.pec_chronicle.proofs.chronicle.Chronicle.give_up.Goals as goal

pub returns-clause-carries : goal.returns-clause-carries
returns-clause-carries g c tells =
    rw (← c.self.view_is) (carries_rested g.D.Disk.sight NothingMay _ _ _ _ _ _ _ refl refl refl (λ up. cc)
    (stays (g.D.Disk.sight (disk_in c.self.inside.drive)) (c.a_disk_is_so.ensures.now tells (disk_in c.self.inside.drive))))
