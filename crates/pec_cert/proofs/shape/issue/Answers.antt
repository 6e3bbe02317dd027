use Rattle.std.proofs.Common.{refl}
use Rattle.std.specs.Prelude.{codes}
use Rattle.std.proofs.lemmas.Result.{err_from_is_err_and}
use Rattle.pec_grammar.specs.Reading.{standing}
use Rattle.pec_grammar.proofs.Loops.{fails_by, leads_on}
use Rattle.pec_cert.specs.LinesReading.{element_at, issue_at}
use Rattle.pec_cert.proofs.shape.issue.Goals as goal

pub returns-in_err-id : goal.returns-in_err-id
unfolding issue_at
returns-in_err-id c =
    let p = err_from_is_err_and c.from_residual-in_err-id.result c.from_residual-in_err-id.ensures.1 in
    rw (p.1, p.2) (fails_by c.in_err-id.field-0.0 (element_at (codes "<identificativo>") (codes "</identificativo>\r\n") (standing c.in_ok-shown.at)) (issue_at (standing c.args.at)) c.in_err-id.ensures
    (λ stop is. rw (c.in_ok-provider.ensures, c.in_ok-shown.ensures, is) refl))

pub returns : goal.returns
unfolding issue_at
returns c =
    leads_on _ _ _ _ c.in_ok-provider.ensures
    (leads_on _ _ _ _ c.in_ok-shown.ensures
    (leads_on _ _ _ _ c.in_ok-id.ensures
    (leads_on _ _ _ _ c.in_ok-reference.ensures
    refl)))
