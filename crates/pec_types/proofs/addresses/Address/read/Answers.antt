use Rattle.pec_types.specs.Answers.{told_is_read}
use Rattle.pec_types.proofs.AddressLaws.{told_exactly}
use Rattle.pec_types.proofs.addresses.Address.read.Goals as goal

pub returns-clause-reads : goal.returns-clause-reads
returns-clause-reads c = told_is_read _ _ _ _ _ (told_exactly c.args.text.now) c.read_address.ensures
