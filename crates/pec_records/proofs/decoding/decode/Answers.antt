use Rattle.pec_types.specs.Answers.{told_is_read}
use Rattle.pec_records.proofs.decoding.decode.Goals as goal

pub returns-clause-reads : goal.returns-clause-reads
returns-clause-reads c = told_is_read _ _ _ _ _ (c.an_entry_is_told_exactly.ensures c.args.bytes.now) c.read_entry.ensures
