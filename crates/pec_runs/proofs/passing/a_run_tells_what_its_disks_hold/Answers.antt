-- A run tells what its disks hold: from the law of disks.
use Rattle.pec_runs.specs.Ran.{world}
use Rattle.pec_runs.proofs.PassedLemmas.{honest_steps, opening_is, world_is}
use Rattle.pec_runs.proofs.ThroughLemmas.{as_moves}
use Rattle.pec_runs.proofs.passing.a_run_tells_what_its_disks_hold.Goals as goal

pub returns : goal.returns
returns g c =
    λ told asked status unread before after home left old new ran form script begun all at_home honest fitting phase number
    within provider bytes killed.
    let tells = g.P.Depot.tells × g.P.D.Disk.tells in
    let sight = g.P.D.Disk.sight in
    let faults = g.P.D.Counted.faults in
    let played = ran.through.played form script begun all in
    let is_trade = world_is tells sight faults asked status unread before after home left old new ran form script begun in
    let keep = c.disks_are_passed_on.ensures.moves (world ran.ran.happened) is_trade home left old.disks new.disks form
    ran.ran.happened.screens ran.ran.happened.opening.journals played.goes
    (honest_steps tells sight faults asked status unread before after home left old new ran form script begun
    c.a_line_has_one_reading.ensures played honest) in
    c.disks_are_passed_on.ensures.told told (world ran.ran.happened) is_trade
    home left old.disks new.disks form ran.ran.happened.screens ran.ran.happened.opening
    (opening_is tells sight faults asked status unread before after home left old new ran form script begun) all at_home
    (as_moves tells sight faults home left old.disks new.disks (world ran.ran.happened) form ran.ran.happened.screens
    ran.ran.happened.opening.journals played.goes keep)
    fitting phase number within provider bytes killed
