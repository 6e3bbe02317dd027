use Rattle.pec_types.proofs.AddressStepLemmas.{address_passes, passed_address}
use Rattle.pec_types.proofs.scanning.lower_addresses_pass.Goals as goal

pub returns : goal.returns
returns c = λ bytes. (address_passes bytes, λ h. passed_address bytes h.0 h.1)
