use Rattle.pec_network.proofs.StartLemmas.{made_so, unmade_about, unmade_back, unmade_risen}
use Rattle.pec_network.proofs.starting.make.Goals as goal

pub returns-in-Ok-clause-begun : goal.returns-in-Ok-clause-begun
returns-in-Ok-clause-begun g c =
    made_so g.D.Disk.tells g.D.Disk.tells g.D.Disk.sight c.args.house.now.directory.now c.args.house.now.me c.args.disk c.in-Ok.provider
    c.in-Ok.ensures.created c.in-Ok.ensures.empty c.in-Ok.ensures.stands c.in-Ok.ensures.any_moment

pub returns-in-Err-clause-about : goal.returns-in-Err-clause-about
returns-in-Err-clause-about g c = rw c.unmade.ensures (unmade_about c.args.house.now.me c.in-Err.fault)

pub returns-in-Err-clause-back : goal.returns-in-Err-clause-back
returns-in-Err-clause-back g c =
    rw c.unmade.ensures
    (unmade_back g.D.Disk.tells g.D.Disk.tells g.D.Disk.sight c.args.house.now.directory.now c.args.house.now.me c.in-Err.fault c.args.disk c.in-Err.disk
    c.in-Err.ensures.not_empty c.in-Err.ensures.as_it_was c.in-Err.ensures.any_moment_err (λ reads. g.met.D.Disk.only_now reads c.args.disk))

pub returns-in-Err-clause-disk_fault : goal.returns-in-Err-clause-disk_fault
returns-in-Err-clause-disk_fault g c =
    rw c.unmade.ensures
    (unmade_risen c.args.house.now.me c.in-Err.fault (g.D.Counted.faults c.args.disk)
    (g.D.Counted.faults c.in-Err.disk) c.in-Err.ensures.disk_fault)
