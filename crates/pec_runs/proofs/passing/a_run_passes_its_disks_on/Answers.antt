-- A run passes its disks on: from the lemmas, and the law of disks.
use Rattle.pec_runs.specs.Openings.{Resume}
use Rattle.pec_runs.specs.Ran.{world}
use Rattle.pec_runs.specs.Through.{disks_in}
use Rattle.pec_runs.proofs.PassedLemmas.{honest_steps, opening_is, run_passes, world_is}
use Rattle.pec_runs.proofs.ThroughLemmas.{as_moves, had_in_any}
use Rattle.pec_runs.proofs.passing.a_run_passes_its_disks_on.Goals as goal

pub returns-clause-ended : goal.returns-clause-ended
returns-clause-ended g c =
    λ told trade asked status unread before after home left found old new ran same at_home honest left_as.
    run_passes (g.P.Depot.tells × g.P.D.Disk.tells) g.P.D.Disk.sight g.P.D.Counted.faults asked status unread before after home left old new ran
    c.a_line_has_one_reading.ensures (c.disks_are_passed_on.ensures.stopped told) (c.disks_are_passed_on.ensures.ended told)
    (λ form goes honest_so is_trade. c.disks_are_passed_on.ensures.moves (world ran.ran.happened) is_trade home left old.disks
    new.disks form ran.ran.happened.screens ran.ran.happened.opening.journals goes honest_so)
    found trade same at_home honest left_as

pub returns-clause-unasked : goal.returns-clause-unasked
returns-clause-unasked g c =
    λ told trade asked status unread before after home left found old new ran none between.
    c.disks_are_passed_on.ensures.opening told trade Resume home left found
    (had_in_any g.P.D.Disk.sight (g.P.Depot.tells × g.P.D.Disk.tells) (world ran.ran.happened) trade home left
    (ran.through.unasked none))
    between

pub returns-clause-opening : goal.returns-clause-opening
returns-clause-opening g c =
    λ told asked status unread before after home left found old new ran form script begun some between.
    c.disks_are_passed_on.ensures.opening told (world ran.ran.happened) form home left found
    (ran.through.stopped form script begun some) between

pub returns-clause-had : goal.returns-clause-had
returns-clause-had g c =
    λ told asked status unread before after home left found old new ran form script begun all between.
    let played = ran.through.played form script begun all in
    c.disks_are_passed_on.ensures.opening told (world ran.ran.happened) form home (disks_in played.goes.first) found
    played.goes.had between

pub returns-clause-killed : goal.returns-clause-killed
returns-clause-killed g c =
    λ told asked status unread before after home left found old new ran form script begun all at_home honest number within
    killed.
    let tells = g.P.Depot.tells × g.P.D.Disk.tells in
    let sight = g.P.D.Disk.sight in
    let faults = g.P.D.Counted.faults in
    let played = ran.through.played form script begun all in
    let is_trade = world_is tells sight faults asked status unread before after home left old new ran form script begun in
    let keep = c.disks_are_passed_on.ensures.moves (world ran.ran.happened) is_trade home left old.disks new.disks form
    ran.ran.happened.screens ran.ran.happened.opening.journals played.goes
    (honest_steps tells sight faults asked status unread before after home left old new ran form script begun
    c.a_line_has_one_reading.ensures played honest) in
    c.disks_are_passed_on.ensures.killed told (world ran.ran.happened) is_trade
    home left found old.disks new.disks form ran.ran.happened.screens ran.ran.happened.opening
    (opening_is tells sight faults asked status unread before after home left old new ran form script begun) all at_home
    (as_moves tells sight faults home left old.disks new.disks (world ran.ran.happened) form ran.ran.happened.screens
    ran.ran.happened.opening.journals played.goes keep)
    number within killed
