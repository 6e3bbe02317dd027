use Rattle.std.proofs.Common.{◌≡◌, ◌∙◌, ap}
use Rattle.pec_chronicle.specs.Carrying.{NothingMay}
use Rattle.pec_chronicle.specs.Chronicle.{PastState, down_over, past_of}
use Rattle.pec_chronicle.proofs.StepLemmas.{carries_down}
use Rattle.pec_chronicle.proofs.chronicle.Chronicle.restart.Goals as goal

pub returns-in-Ok-clause-found : goal.returns-in-Ok-clause-found
returns-in-Ok-clause-found g c tells stands =
    let found = stands.images _ (c.a_disk_is_so.ensures.reads tells c.args.self.disk) in
    (found.0, record { reads = (rw c.part-disk.ensures.disk at (c.in-Ok.ensures.list tells)) _ found.1.file; written = found.1.written })

pub returns-in-Err-clause-carries_err : goal.returns-in-Err-clause-carries_err
returns-in-Err-clause-carries_err g c tells =
    let new : c.over.result ≡ down_over (past_of c.args.self) c.in-Err.disk =
    c.over.ensures ∙ ap (λ (past : PastState). down_over past c.in-Err.disk) c.part-disk.ensures.past in
    rw new (carries_down g.D.Disk.sight NothingMay c.args.self c.in-Err.disk (rw c.part-disk.ensures.disk at (c.in-Err.ensures.stays_err tells)))

pub returns-in-Err-clause-refused : goal.returns-in-Err-clause-refused
returns-in-Err-clause-refused g c tells stands n =
    let found = stands.images _ (c.a_disk_is_so.ensures.reads tells c.args.self.disk) in
    ((rw c.part-disk.ensures.disk at (c.in-Err.ensures.refused tells)) _ found.1.file n, c.in-Err.ensures.no_entry n)
