use Rattle.std.proofs.Common.{refl}
use Rattle.std.proofs.lemmas.Result.{err_from_is_err_and}
use Rattle.pec_cert.specs.LinesReading.{front_at}
use Rattle.pec_cert.proofs.shape.front.Goals as goal

pub returns-in_err-at-3 : goal.returns-in_err-at-3
unfolding front_at
returns-in_err-at-3 c =
    let p = err_from_is_err_and c.from_residual-in_err-at-3.result c.from_residual-in_err-at-3.ensures.1 in
    rw (p.1, p.2, c.in_ok-at.ensures, c.in_ok-kind.ensures, c.in_ok-at-2.ensures, c.in_ok-error.ensures, c.in_err-at-3.ensures) refl

pub returns : goal.returns
unfolding front_at
returns c = rw (c.in_ok-at.ensures, c.in_ok-kind.ensures, c.in_ok-at-2.ensures, c.in_ok-error.ensures, c.in_ok-at-3.ensures) refl
