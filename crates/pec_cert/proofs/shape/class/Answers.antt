use Rattle.std.proofs.lemmas.Result.{err_from_is_err_and}
use Rattle.pec_cert.proofs.shape.class.Goals as goal

pub returns-in_err-certified : goal.returns-in_err-certified
returns-in_err-certified c = let p = err_from_is_err_and c.from_residual.result c.from_residual.ensures.1 in rw (p.1, p.2) c.in_err-certified.ensures

pub returns : goal.returns
returns c = c.in_ok-certified.ensures
