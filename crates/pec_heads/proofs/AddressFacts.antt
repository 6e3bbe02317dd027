-- What the law of addresses says, as the laws of lists need it: what a text is told to be is its address or its fault.
use Rattle.std.proofs.Common.{◌≡◌, ℕ, List, Result, Ok, Err, refl}
use Rattle.pec_types.specs.Address.{IsAddress, IsAddressFault, IsReadAs, lowered}
use Rattle.pec_types.specs.AddressReading.{address_of}
use Rattle.pec_types.specs.Answers.{TellsExactly}
use Rattle.pec_types.specs.declared.addresses.AddressFault.{AddressFault}

abbrev pub AddressesTold : Type 0
AddressesTold = (text : List ℕ) → TellsExactly (IsReadAs text) (IsAddressFault text) (address_of text)

abbrev pub AddressSays : List ℕ → Result (List ℕ) AddressFault → Type 0
AddressSays text (Ok address) = IsReadAs text address
AddressSays text (Err fault) = IsAddressFault text fault

module _ (told : AddressesTold) where
  says : (text : List ℕ) (r : Result (List ℕ) AddressFault) → address_of text ≡ r → AddressSays text r
  says text (Ok address) e = ((told text).value address).0 e
  says text (Err fault) e = ((told text).fault fault).0 e

  pub answered : (text : List ℕ) → AddressSays text (address_of text)
  answered text = says text (address_of text) refl

  pub only_address : (text : List ℕ) → IsAddress text → address_of text ≡ Ok (lowered text)
  only_address text is = ((told text).value (lowered text)).1 (is, refl)

  pub each_fault : (text : List ℕ) (fault : AddressFault) → IsAddressFault text fault → address_of text ≡ Err fault
  each_fault text fault is = ((told text).fault fault).1 is
