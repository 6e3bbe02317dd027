-- What was told is on the disks: from the lemmas.
use Rattle.pec_runs.proofs.MomentLemmas.{seen_at, sound_at, told_front, told_kept}
use Rattle.pec_runs.proofs.moments.what_was_told_is_kept.Goals as goal

pub returns-clause-told : goal.returns-clause-told
returns-clause-told g c = λ trade providers here steps phase number before held told.
    told_front trade providers phase number here steps before held told

pub returns-clause-kept : goal.returns-clause-kept
returns-clause-kept g c = λ tells trade is_trade here there steps are all honest sound stand seen phase number within.
    let so = sound_at trade g.P.D.Disk.sight (g.P.Depot.tells × g.P.D.Disk.tells) (c.a_network_stays_sound.ensures.commands trade is_trade) number here there steps
    are all honest sound stand within in
    told_kept trade g.P.D.Disk.sight (c.a_disk_is_so.ensures.now tells) phase number here there steps all within so.0 so.1
    (seen_at trade g.P.D.Disk.sight number here there steps all seen within)
