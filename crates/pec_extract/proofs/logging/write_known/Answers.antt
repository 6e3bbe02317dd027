-- Where there is no memory for what is told nothing is written.
use Rattle.pec_extract.proofs.LogLemmas.{on_err, wrote_nothing}
use Rattle.pec_extract.proofs.logging.write_known.Goals as goal

pub returns-in_err-told-clause-err : goal.returns-in_err-told-clause-err
returns-in_err-told-clause-err g c = on_err c.from_residual.result (wrote_nothing _ _)
