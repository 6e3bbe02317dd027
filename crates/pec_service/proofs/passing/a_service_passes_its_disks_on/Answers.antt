-- A service passes its disks on: from the lemmas, and the law of disks.
use Rattle.pec_runs.specs.Through.{disks_in}
use Rattle.pec_service.specs.Runs.{world}
use Rattle.pec_service.proofs.PassingLemmas.{opening_is, service_passes, world_is}
use Rattle.pec_service.proofs.passing.a_service_passes_its_disks_on.Goals as goal

pub returns-clause-ended : goal.returns-clause-ended
returns-clause-ended g c =
    λ told trade asked status unread before after home left found here there old new ran same at_home left_as.
    service_passes (g.P.Depot.tells × g.P.D.Disk.tells) g.P.D.Disk.sight g.P.D.Counted.faults asked status unread before after home left here
    there old new ran (c.disks_are_passed_on.ensures.stopped told) (c.disks_are_passed_on.ensures.ended told) found trade
    same at_home left_as

pub returns-clause-opening : goal.returns-clause-opening
returns-clause-opening g c =
    λ told asked status unread before after home left found here there old new ran begins form is some between.
    c.disks_are_passed_on.ensures.opening told (world ran.ran.served.happened) form home left found
    (ran.through.stopped begins form is some) between

pub returns-clause-had : goal.returns-clause-had
returns-clause-had g c =
    λ told asked status unread before after home left found here there old new ran begins form is all between.
    let served = (ran.through.served begins form is all).through in
    c.disks_are_passed_on.ensures.opening told (world ran.ran.served.happened) form home (disks_in served.first) found
    served.had between

pub returns-clause-killed : goal.returns-clause-killed
returns-clause-killed g c =
    λ told asked status unread before after home left found here there old new ran begins form is all at_home number within
    killed.
    let tells = g.P.Depot.tells × g.P.D.Disk.tells in
    let sight = g.P.D.Disk.sight in
    let faults = g.P.D.Counted.faults in
    c.disks_are_passed_on.ensures.killed told (world ran.ran.served.happened)
    (world_is tells sight faults asked status unread before after home left here there old new ran begins form is)
    home left found old.devices.disks new.devices.disks form asked.screens ran.ran.served.happened.course.opening
    (opening_is tells sight faults asked status unread before after home left here there old new ran begins form is) all at_home
    ((ran.through.served begins form is all).through) number within killed
