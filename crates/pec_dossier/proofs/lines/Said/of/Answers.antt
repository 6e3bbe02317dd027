-- What was found says what the line does, or ends the dossier.
use Rattle.std.proofs.Common.{sym}
use Rattle.pec_dossier.proofs.LineLemmas.{past_ends}
use Rattle.pec_dossier.proofs.lines.Said.of.Goals as goal

pub returns-in_ok-said-in-Line-clause-says : goal.returns-in_ok-said-in-Line-clause-says
returns-in_ok-said-in-Line-clause-says c =
    rw c.in-Line.is (c.in_ok-said-in-Line.ensures.says c.args.line.now (sym c.content.ensures))

pub returns-in_ok-text-in-Long-clause-says : goal.returns-in_ok-text-in-Long-clause-says
returns-in_ok-text-in-Long-clause-says c =
    rw c.in-Long.is (λ long lines too. past_ends c.args.number long lines _ (λ few. too) c.in_ok-text-in-Long.ensures)
