-- A run that is killed at any moment: from the lemmas.
use Rattle.pec_runs.specs.Moments.{state_at}
use Rattle.pec_runs.proofs.MomentLemmas.{killed_fit, killed_follows, seen_at, sound_at}
use Rattle.pec_runs.proofs.moments.a_run_may_be_killed_at_any_moment.Goals as goal

pub returns-clause-sound : goal.returns-clause-sound
returns-clause-sound g c = λ trade is_trade here there steps are all honest sound stand number within.
    sound_at trade g.P.D.Disk.sight (g.P.Depot.tells × g.P.D.Disk.tells) (c.a_network_stays_sound.ensures.commands trade is_trade) number here there steps are all
    honest sound stand within

pub returns-clause-follows : goal.returns-clause-follows
returns-clause-follows g c = λ tells trade is_trade here there steps are all honest sound stand seen number within.
    let so = sound_at trade g.P.D.Disk.sight (g.P.Depot.tells × g.P.D.Disk.tells) (c.a_network_stays_sound.ensures.commands trade is_trade) number here there steps
    are all honest sound stand within in
    killed_follows trade g.P.D.Disk.sight (c.a_disk_is_so.ensures.now tells) number here there steps all within so.0 so.1
    (seen_at trade g.P.D.Disk.sight number here there steps all seen within)

pub returns-clause-fit : goal.returns-clause-fit
returns-clause-fit g c = λ tells trade is_trade here there steps are all honest sound stand seen number within.
    let so = sound_at trade g.P.D.Disk.sight (g.P.Depot.tells × g.P.D.Disk.tells) (c.a_network_stays_sound.ensures.commands trade is_trade) number here there steps
    are all honest sound stand within in
    killed_fit trade g.P.D.Disk.sight (c.a_disk_is_so.ensures.now tells) number here there steps all within so.0 so.1
    (seen_at trade g.P.D.Disk.sight number here there steps all seen within) c.a_disk_holds_one_list.ensures
    (c.any_images.ensures.lists trade (state_at number here there steps).sites so.0)
