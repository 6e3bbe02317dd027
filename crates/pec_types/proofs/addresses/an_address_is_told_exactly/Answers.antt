-- The tie of grammar and function, from the lemmas.
use Rattle.pec_types.proofs.AddressLaws.{told_exactly}
use Rattle.pec_types.proofs.addresses.an_address_is_told_exactly.Goals as goal

pub returns : goal.returns
returns c = told_exactly
