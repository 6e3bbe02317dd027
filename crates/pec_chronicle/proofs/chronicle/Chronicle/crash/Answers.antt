use Rattle.std.proofs.Common.{◌≡◌, ◌∙◌, ap}
use Rattle.pec_chronicle.specs.Carrying.{NothingMay}
use Rattle.pec_chronicle.specs.Chronicle.{PastState, down_over, past_of}
use Rattle.pec_chronicle.proofs.StepLemmas.{carries_crash}
use Rattle.pec_chronicle.proofs.chronicle.Chronicle.crash.Goals as goal

pub returns-clause-carries : goal.returns-clause-carries
returns-clause-carries g c tells =
    let new : c.over.result ≡ down_over (past_of c.args.self) c.crash.result =
    c.over.ensures ∙ ap (λ (past : PastState). down_over past c.crash.result) c.part-disk.ensures.past in
    rw new (carries_crash g.D.Disk.sight NothingMay c.args.self c.crash.result
    (rw c.part-disk.ensures.disk at (c.crash.ensures.left tells))
    (c.crash.ensures.durable tells)
    (rw c.part-disk.ensures.disk at (c.crash.ensures.time tells))
    (c.a_disk_is_so.ensures.now tells c.args.self.disk))
