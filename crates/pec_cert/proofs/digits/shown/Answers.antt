use Rattle.std.proofs.Common.{refl}
use Rattle.std.proofs.lemmas.Result.{err_from_is_err_and}
use Rattle.pec_cert.specs.LinesReading.{shown_at}
use Rattle.pec_cert.proofs.digits.shown.Goals as goal

pub returns-in_err-zone : goal.returns-in_err-zone
unfolding shown_at
returns-in_err-zone c = let p = err_from_is_err_and c.from_residual-in_err-zone.result c.from_residual-in_err-zone.ensures.1 in rw (p.1, p.2, c.in_ok-at.ensures, c.in_err-zone.ensures) refl

pub returns-in_err-at-2 : goal.returns-in_err-at-2
unfolding shown_at
returns-in_err-at-2 c = let p = err_from_is_err_and c.from_residual-in_err-at-2.result c.from_residual-in_err-at-2.ensures.1 in rw (p.1, p.2, c.in_ok-at.ensures, c.in_ok-zone.ensures, c.in_err-at-2.ensures) refl

pub returns-in_err-day : goal.returns-in_err-day
unfolding shown_at
returns-in_err-day c = let p = err_from_is_err_and c.from_residual-in_err-day.result c.from_residual-in_err-day.ensures.1 in rw (p.1, p.2, c.in_ok-at.ensures, c.in_ok-zone.ensures, c.in_ok-at-2.ensures, c.in_err-day.ensures) refl

pub returns-in_err-at-3 : goal.returns-in_err-at-3
unfolding shown_at
returns-in_err-at-3 c = let p = err_from_is_err_and c.from_residual-in_err-at-3.result c.from_residual-in_err-at-3.ensures.1 in rw (p.1, p.2, c.in_ok-at.ensures, c.in_ok-zone.ensures, c.in_ok-at-2.ensures, c.in_ok-day.ensures, c.in_err-at-3.ensures) refl

pub returns-in_err-time : goal.returns-in_err-time
unfolding shown_at
returns-in_err-time c = let p = err_from_is_err_and c.from_residual-in_err-time.result c.from_residual-in_err-time.ensures.1 in rw (p.1, p.2, c.in_ok-at.ensures, c.in_ok-zone.ensures, c.in_ok-at-2.ensures, c.in_ok-day.ensures, c.in_ok-at-3.ensures, c.in_err-time.ensures) refl

pub returns-in_err-at-4 : goal.returns-in_err-at-4
unfolding shown_at
returns-in_err-at-4 c = let p = err_from_is_err_and c.from_residual-in_err-at-4.result c.from_residual-in_err-at-4.ensures.1 in rw (p.1, p.2, c.in_ok-at.ensures, c.in_ok-zone.ensures, c.in_ok-at-2.ensures, c.in_ok-day.ensures, c.in_ok-at-3.ensures, c.in_ok-time.ensures, c.in_err-at-4.ensures) refl

pub returns : goal.returns
unfolding shown_at
returns c = rw (c.in_ok-at.ensures, c.in_ok-zone.ensures, c.in_ok-at-2.ensures, c.in_ok-day.ensures, c.in_ok-at-3.ensures, c.in_ok-time.ensures, c.in_ok-at-4.ensures) refl
