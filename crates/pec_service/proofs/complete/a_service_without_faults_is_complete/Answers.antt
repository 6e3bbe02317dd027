-- A service is complete: from the lemmas.
use Rattle.pec_service.specs.Runs.{world}
use Rattle.pec_service.proofs.CompleteLemmas.{HadLaws, completes}
use Rattle.pec_service.proofs.complete.a_service_without_faults_is_complete.Goals as goal

pub returns : goal.returns
returns g c = λ told asked status unread before after depot left here there old new ran begins can none.
    let tells = g.P.Depot.tells × g.P.D.Disk.tells in
    let sight = g.P.D.Disk.sight in
    let home = g.P.Depot.home depot in
    let laws : HadLaws tells sight (world ran.served.happened) home = record {
      had = λ form opening is can. c.journals_are_had_without_faults.ensures.had told (world ran.served.happened) form home
          opening is can;
      failed = c.journals_are_had_without_faults.ensures.failed;
      stopped = c.journals_are_had_without_faults.ensures.stopped;
    } in
    completes tells sight told asked status unread before after home (g.P.Depot.home left) here there old new ran begins can
    none laws
    (λ form is all. c.a_run_without_faults_serves_all.ensures asked status unread before after depot left here there old new
    ran form begins is all none)
