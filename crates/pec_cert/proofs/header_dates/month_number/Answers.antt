use Rattle.std.proofs.lemmas.Result.{err_from_is_err_and}
use Rattle.pec_cert.proofs.header_dates.month_number.Goals as goal

pub returns-in_err-month : goal.returns-in_err-month
returns-in_err-month c = let p = err_from_is_err_and c.from_residual.result c.from_residual.ensures.1 in rw (p.1, p.2) c.in_err-month.ensures

pub returns : goal.returns
returns c = c.in_ok-month.ensures
