-- Disks are passed on: from the lemmas.
use Rattle.pec_runs.proofs.ThroughLemmas.{ended_passes, had_behind, had_between, killed_passes, steps_move, told_there}
use Rattle.pec_runs.proofs.passing.disks_are_passed_on.Goals as goal

pub returns-clause-stopped : goal.returns-clause-stopped
returns-clause-stopped g c = λ told trade form home left found at_home had left_as.
    had_behind (g.P.Depot.tells × g.P.D.Disk.tells) g.P.D.Disk.sight trade told (c.a_disk_is_so.ensures.now told.1)
    (c.a_disk_is_so.ensures.counts told.1) (c.a_disk_is_so.ensures.reads told.1) form home left found at_home had left_as

pub returns-clause-opening : goal.returns-clause-opening
returns-clause-opening g c = λ told trade form home new found had between.
    had_between (g.P.Depot.tells × g.P.D.Disk.tells) g.P.D.Disk.sight trade told (c.a_disk_is_so.ensures.now told.1)
    (c.a_disk_is_so.ensures.counts told.1) (c.a_disk_is_so.ensures.reads told.1) form home new found had between

pub returns-clause-ended : goal.returns-clause-ended
returns-clause-ended g c =
    λ told trade is_trade home left found from upto form screens opening is all at_home goes left_as.
    ended_passes (g.P.Depot.tells × g.P.D.Disk.tells) g.P.D.Disk.sight trade told is_trade
    (c.licences_stand.ensures.conditions trade) (c.soundness.ensures.start trade) (c.a_disk_is_so.ensures.now told.1)
    (c.a_disk_is_so.ensures.counts told.1) (c.a_disk_is_so.ensures.reads told.1) home left form screens opening is all at_home from
    upto g.P.D.Counted.faults goes found left_as

pub returns-clause-killed : goal.returns-clause-killed
returns-clause-killed g c =
    λ told trade is_trade home left found from upto form screens opening is all at_home goes number within killed.
    killed_passes (g.P.Depot.tells × g.P.D.Disk.tells) g.P.D.Disk.sight trade told is_trade
    (c.licences_stand.ensures.conditions trade) (c.soundness.ensures.start trade) (c.a_disk_is_so.ensures.now told.1)
    (c.a_disk_is_so.ensures.counts told.1) (c.a_disk_is_so.ensures.reads told.1) home left form screens opening is all at_home from
    upto g.P.D.Counted.faults goes found number within killed

pub returns-clause-told : goal.returns-clause-told
returns-clause-told g c =
    λ told trade is_trade home left from upto form screens opening is all at_home goes fitting phase number within provider
    bytes killed.
    told_there (g.P.Depot.tells × g.P.D.Disk.tells) g.P.D.Disk.sight trade told is_trade
    (c.licences_stand.ensures.conditions trade) (c.soundness.ensures.start trade) (c.a_disk_is_so.ensures.now told.1)
    (c.a_disk_is_so.ensures.counts told.1) (c.a_disk_is_so.ensures.reads told.1) home left form screens opening is all at_home from
    upto g.P.D.Counted.faults goes fitting phase number within provider bytes killed

pub returns-clause-moves : goal.returns-clause-moves
returns-clause-moves g c = λ trade is_trade home left from upto form screens journals goes honest.
    steps_move trade (g.P.Depot.tells × g.P.D.Disk.tells) g.P.D.Disk.sight (c.a_network_stays_sound.ensures.commands trade)
    goes.first goes.steps goes.each honest
