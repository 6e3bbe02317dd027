-- Runs go on from one another, whichever they are: from the laws of one run and of one service.
use Rattle.pec_service.specs.Calling.{home_of}
use Rattle.pec_service.proofs.PassingLemmas.{call_passes, calls_on}
use Rattle.pec_service.proofs.passing.calls_go_on_from_one_another.Goals as goal

pub returns : goal.returns
returns g c = record {
  fitting = λ told trade first more none are.
      let tells = g.P.Depot.tells × g.P.D.Disk.tells in
      let sight = g.P.D.Disk.sight in
      let faults = g.P.D.Counted.faults in
      calls_on tells sight faults trade
      (call_passes tells sight faults trade
      (λ run next honest left_as.
      c.a_run_passes_its_disks_on.ensures.ended told trade run.asked run.status run.unread run.before run.after run.home run.left
      next run.old run.new honest.ran honest.world_is honest.at_home honest.honest left_as)
      (λ service next honest left_as.
      c.a_service_passes_its_disks_on.ensures.ended told trade service.asked service.status service.unread service.before
      service.after service.home service.left next service.here service.there service.old service.new honest.ran
      honest.world_is honest.at_home left_as))
      (λ old new passes fitting. c.what_is_passed_on_fits.ensures.passed trade old new passes fitting)
      first more (c.what_is_passed_on_fits.ensures.empty trade (home_of first) none) are;
}
