use Rattle.pec_extract.proofs.WritingLemmas.{nothing_written}
use Rattle.pec_extract.proofs.writing.write_record.Goals as goal

pub returns-in_err-text-clause-err : goal.returns-in_err-text-clause-err
returns-in_err-text-clause-err g c = nothing_written c.from_residual.result (g.W.Stream.held c.args.out.now) _
