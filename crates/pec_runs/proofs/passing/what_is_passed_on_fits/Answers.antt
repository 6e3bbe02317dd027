-- What is found fits together: from the lemmas.
use Rattle.pec_runs.specs.Passing.{held}
use Rattle.pec_runs.proofs.PassingLemmas.{empty_fitting, opened_fitting, passes_fitting, runs_fitting}
use Rattle.pec_runs.proofs.passing.what_is_passed_on_fits.Goals as goal

pub returns-clause-empty : goal.returns-clause-empty
returns-clause-empty g c = λ trade home none.
    empty_fitting trade (held (g.P.Depot.tells × g.P.D.Disk.tells) g.P.D.Disk.sight home) none

pub returns-clause-passed : goal.returns-clause-passed
returns-clause-passed g c = λ trade old new passes fitting.
    let tells = g.P.Depot.tells × g.P.D.Disk.tells in
    passes_fitting trade (held tells g.P.D.Disk.sight old) (held tells g.P.D.Disk.sight new)
    c.a_disk_holds_one_list.ensures (c.any_images.ensures.lists trade) passes fitting

pub returns-clause-runs : goal.returns-clause-runs
returns-clause-runs g c = λ trade first more none are.
    let tells = g.P.Depot.tells × g.P.D.Disk.tells in
    let sight = g.P.D.Disk.sight in
    runs_fitting tells sight trade
    (λ old new passes fitting.
    passes_fitting trade (held tells sight old) (held tells sight new) c.a_disk_holds_one_list.ensures
    (c.any_images.ensures.lists trade) passes fitting)
    first more are
    (empty_fitting trade (held tells sight first) none)

pub returns-clause-opened : goal.returns-clause-opened
returns-clause-opened g c = λ told trade home opening at_home fitting is all.
    opened_fitting (g.P.Depot.tells × g.P.D.Disk.tells) g.P.D.Disk.sight home trade told
    (c.a_disk_is_so.ensures.reads told.1) at_home fitting opening is all
