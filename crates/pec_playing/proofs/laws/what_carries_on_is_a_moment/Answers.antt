-- What carries on is a moment: from the lemmas.
use Rattle.std.proofs.Common.{None}
use Rattle.pec_playing.proofs.MomentLemmas.{is_moment, state_counted}
use Rattle.pec_playing.proofs.laws.what_carries_on_is_a_moment.Goals as goal

pub returns-clause-counted : goal.returns-clause-counted
returns-clause-counted g c = λ network elsewhere spares. state_counted g.D.Counted.faults elsewhere spares network

pub returns-clause-moment : goal.returns-clause-moment
returns-clause-moment g c = λ told trade old new many carries elsewhere spares left.
    is_moment g.D.Disk.sight g.D.Disk.tells trade
    (record { follows = c.a_call_leaves_what_follows.ensures.follows trade; seen = c.a_call_leaves_what_follows.ensures.seen })
    old new many carries told g.D.Counted.faults elsewhere spares left None None 0 0
