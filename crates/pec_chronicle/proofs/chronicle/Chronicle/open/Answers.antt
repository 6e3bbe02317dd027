use Rattle.pec_chronicle.proofs.ReadingLemmas.{opened_elsewhere, reads_begun}
use Rattle.pec_chronicle.proofs.chronicle.Chronicle.open.Goals as goal

pub returns-in-Ok-clause-list : goal.returns-in-Ok-clause-list
returns-in-Ok-clause-list g c tells texts file =
    let opened = c.in-Ok.ensures.list tells texts file in
    reads_begun g.D.Disk.sight _ texts c.new.ensures opened.0 opened.1

pub returns-in-Err-clause-refused : goal.returns-in-Err-clause-refused
returns-in-Err-clause-refused g c tells texts file n =
    rw c.into.ensures (opened_elsewhere c.in-Err.fault n (c.in-Err.ensures.refused tells texts file)).0
