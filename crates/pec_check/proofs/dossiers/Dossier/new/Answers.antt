use Rattle.std.proofs.Common.{ap, map}
use Rattle.pec_check.specs.Findings.{findings}
use Rattle.pec_check.specs.Views.{finding_shown}
use Rattle.pec_check.proofs.dossiers.Dossier.new.Goals as goal

pub returns : goal.returns
unfolding findings
returns c = ap (map finding_shown) c.new.ensures.empty
