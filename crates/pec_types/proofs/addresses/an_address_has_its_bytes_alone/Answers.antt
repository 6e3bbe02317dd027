-- The bytes of addresses, from the lemmas.
use Rattle.pec_types.proofs.AddressBytes.{none_in}
use Rattle.pec_types.proofs.addresses.an_address_has_its_bytes_alone.Goals as goal

pub returns : goal.returns
returns c = none_in
