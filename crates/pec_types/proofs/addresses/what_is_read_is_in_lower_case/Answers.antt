-- An address in lower case, from the lemmas.
use Rattle.pec_types.proofs.LowerCase.{kept_address}
use Rattle.pec_types.proofs.addresses.what_is_read_is_in_lower_case.Goals as goal

pub returns : goal.returns
returns c = λ text address is. kept_address text address is.0 is.1
