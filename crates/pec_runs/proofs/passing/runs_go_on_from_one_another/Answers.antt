-- Runs go on from one another: from the laws of one run and of what fits.
use Rattle.pec_runs.proofs.PassedLemmas.{opened_fit, runs_on}
use Rattle.pec_runs.proofs.passing.runs_go_on_from_one_another.Goals as goal

pub returns-clause-fitting : goal.returns-clause-fitting
returns-clause-fitting g c = λ told trade first more none are.
    runs_on (g.P.Depot.tells × g.P.D.Disk.tells) g.P.D.Disk.sight g.P.D.Counted.faults trade
    (λ run next honest left_as.
    c.a_run_passes_its_disks_on.ensures.ended told trade run.asked run.status run.unread run.before run.after run.home run.left
    next run.old run.new honest.ran honest.world_is honest.at_home honest.honest left_as)
    (λ old new passes fitting. c.what_is_passed_on_fits.ensures.passed trade old new passes fitting)
    first more (c.what_is_passed_on_fits.ensures.empty trade first.home none) are

pub returns-clause-opened : goal.returns-clause-opened
returns-clause-opened g c = λ told trade run fitting honest script begun all.
    opened_fit (g.P.Depot.tells × g.P.D.Disk.tells) g.P.D.Disk.sight g.P.D.Counted.faults trade run honest script begun
    (λ opening is none. c.what_is_passed_on_fits.ensures.opened told trade run.home opening honest.at_home fitting is none) all
