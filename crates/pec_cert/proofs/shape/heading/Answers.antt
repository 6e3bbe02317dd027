use Rattle.std.proofs.Common.{refl}
use Rattle.std.proofs.lemmas.Result.{err_from_is_err_and}
use Rattle.pec_grammar.proofs.Loops.{leads_on}
use Rattle.pec_cert.specs.LinesReading.{heading_at}
use Rattle.pec_cert.proofs.shape.heading.Goals as goal

pub returns-in_err-at : goal.returns-in_err-at
unfolding heading_at
returns-in_err-at c =
    let p = err_from_is_err_and c.from_residual-in_err-at.result c.from_residual-in_err-at.ensures.1 in
    rw (p.1, p.2, c.in_ok-kind.ensures, c.in_ok-sender.ensures, c.in_ok-recipients.ensures, c.in_ok-reply.ensures, c.in_ok-subject.ensures, c.in_err-at.ensures) refl

pub returns : goal.returns
unfolding heading_at
returns c =
    leads_on _ _ _ _ c.in_ok-kind.ensures
    (leads_on _ _ _ _ c.in_ok-sender.ensures
    (leads_on _ _ _ _ c.in_ok-recipients.ensures
    (leads_on _ _ _ _ c.in_ok-reply.ensures
    (leads_on _ _ _ _ c.in_ok-subject.ensures
    (leads_on _ _ _ _ c.in_ok-at.ensures
    refl)))))
