use Rattle.std.proofs.Common.{◌≡◌, ◌∙◌, ap}
use Rattle.pec_chronicle.specs.Carrying.{NothingMay}
use Rattle.pec_chronicle.specs.Chronicle.{PastState, down_over, past_of}
use Rattle.pec_chronicle.proofs.StepLemmas.{carries_down}
use Rattle.pec_chronicle.proofs.openings.Opening.back_to.Goals as goal

pub returns-clause-carries : goal.returns-clause-carries
returns-clause-carries g c tells was same stays =
    let new : c.over.result ≡ down_over (past_of was) c.args.self.disk =
    c.over.ensures ∙ ap (λ (past : PastState). down_over past c.into_disk.result) same ∙ ap (λ (disk : g.row.D.Denot). down_over (past_of was) disk) c.into_disk.ensures in
    rw new (carries_down g.D.Disk.sight NothingMay was c.args.self.disk stays)
