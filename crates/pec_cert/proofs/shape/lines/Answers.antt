use Rattle.std.proofs.Common.{refl}
use Rattle.pec_grammar.proofs.Loops.{leads_on}
use Rattle.pec_cert.specs.LinesReading.{lines_at}
use Rattle.pec_cert.proofs.shape.lines.Goals as goal

pub returns : goal.returns
unfolding lines_at
returns c =
    leads_on _ _ _ _ c.in_ok-heading.ensures
    (leads_on _ _ _ _ c.in_ok-issue.ensures
    (leads_on _ _ _ _ c.in_ok-closing.ensures
    refl))
