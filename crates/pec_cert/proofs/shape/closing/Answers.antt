use Rattle.std.proofs.Common.{refl}
use Rattle.std.proofs.lemmas.Result.{err_from_is_err_and}
use Rattle.pec_grammar.proofs.Loops.{leads_on}
use Rattle.pec_cert.specs.LinesReading.{closing_at}
use Rattle.pec_cert.proofs.shape.closing.Goals as goal

pub returns-in_err-at : goal.returns-in_err-at
unfolding closing_at
returns-in_err-at c =
    let p = err_from_is_err_and c.from_residual-in_err-at.result c.from_residual-in_err-at.ensures.1 in
    rw (p.1, p.2, c.in_ok-wish.ensures, c.in_ok-delivered.ensures, c.in_ok-received.ensures, c.in_ok-detail.ensures, c.in_err-at.ensures) refl

pub returns : goal.returns
unfolding closing_at
returns c =
    leads_on _ _ _ _ c.in_ok-wish.ensures
    (leads_on _ _ _ _ c.in_ok-delivered.ensures
    (leads_on _ _ _ _ c.in_ok-received.ensures
    (leads_on _ _ _ _ c.in_ok-detail.ensures
    (leads_on _ _ _ _ c.in_ok-at.ensures
    refl))))
