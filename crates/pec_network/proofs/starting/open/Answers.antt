use Rattle.pec_network.proofs.StartLemmas.{opened_so, unopened_about, unopened_back, unopened_risen}
use Rattle.pec_network.proofs.starting.open.Goals as goal

pub returns-in-Ok-clause-begun : goal.returns-in-Ok-clause-begun
returns-in-Ok-clause-begun g c =
    opened_so g.D.Disk.tells g.D.Disk.tells g.D.Disk.sight c.args.house.now.directory.now c.args.house.now.me c.args.disk c.in-Ok.provider
    c.in-Ok.ensures.runs c.in-Ok.ensures.up c.in-Ok.ensures.opened c.in-Ok.ensures.stays

pub returns-in-Err-clause-about : goal.returns-in-Err-clause-about
returns-in-Err-clause-about g c = rw c.unopened.ensures (unopened_about c.args.house.now.me c.in-Err.fault)

pub returns-in-Err-clause-back : goal.returns-in-Err-clause-back
returns-in-Err-clause-back g c =
    rw c.unopened.ensures
    (unopened_back g.D.Disk.tells g.D.Disk.tells g.D.Disk.sight c.args.house.now.directory.now c.args.house.now.me c.in-Err.fault c.args.disk c.in-Err.disk
    c.in-Err.ensures.stays_err c.in-Err.ensures.own c.in-Err.ensures.unfit)

pub returns-in-Err-clause-disk_fault : goal.returns-in-Err-clause-disk_fault
returns-in-Err-clause-disk_fault g c =
    rw c.unopened.ensures
    (unopened_risen c.args.house.now.me c.in-Err.fault (g.D.Counted.faults c.args.disk)
    (g.D.Counted.faults c.in-Err.disk) c.in-Err.ensures.disk_fault)
