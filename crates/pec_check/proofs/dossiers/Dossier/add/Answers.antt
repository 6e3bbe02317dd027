use Rattle.std.proofs.Common.{ap, sym, ◌∙◌, Some}
use Rattle.std.proofs.lemmas.Result.{on_ok_weaker}
use Rattle.pec_check.proofs.FindingLemmas.{no_decision, no_recipient, told}
use Rattle.pec_check.proofs.dossiers.Dossier.add.Goals as goal

pub returns-in_default-clause-ok : goal.returns-in_default-clause-ok
returns-in_default-clause-ok c reports is = no_recipient reports c.args.report.now c.args.self.now c.in_default.is-1 is

pub returns-in_default-2-clause-ok : goal.returns-in_default-2-clause-ok
returns-in_default-2-clause-ok c reports is =
    no_decision reports c.args.report.now c.args.self.now (sym c.decision.ensures ∙ c.in_default.is-0) is

pub returns-clause-ok : goal.returns-clause-ok
returns-clause-ok c reports is =
    on_ok_weaker c.note.result
    (told reports c.args.report.now c.in_ok-copy.field-0 c.in-Some-Some.decision _ _
    (c.in-Some-Some.is-1 ∙ ap Some (sym c.in_ok-copy.ensures)) (sym c.decision.ensures ∙ c.in-Some-Some.is-0) (c.self.view_is ∙ is))
    c.note.ensures.ok
