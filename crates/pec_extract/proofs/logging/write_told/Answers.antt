-- Where there is no memory for the name nothing is written.
use Rattle.pec_extract.proofs.LogLemmas.{on_err, wrote_nothing}
use Rattle.pec_extract.proofs.logging.write_told.Goals as goal

pub returns-in_err-name-clause-err : goal.returns-in_err-name-clause-err
returns-in_err-name-clause-err g c = on_err c.from_residual.result (wrote_nothing _ _)
