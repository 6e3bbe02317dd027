-- The laws of pec_types on which lemmas here stand, as the functions that state them give them.
use Rattle.std.specs.Prelude.{◌≡◌, ◌↔◌, false}
use Rattle.std.specs.List.{AllByRecursion}
use Rattle.pec_types.specs.Address.{IsAddressFault, IsLowerAddress, IsReadAs}
use Rattle.pec_types.specs.AddressReading.{address_of}
use Rattle.pec_types.specs.Answers.{TellsExactly}
use Rattle.pec_types.specs.Bytes.{Bytes}
use Rattle.pec_types.specs.Text.{is_unprintable, AllPrintable}

-- of `an_address_is_told_exactly` and `what_is_read_is_in_lower_case`
pub record AddressLaws : Type 0 where
  pub told : (text : Bytes) → TellsExactly (IsReadAs text) (IsAddressFault text) (address_of text)
  pub lower : (text address : Bytes) → IsReadAs text address → IsLowerAddress address

-- of `printable_is_said_of_each_byte`
abbrev pub PrintableByByte : Type 0
PrintableByByte = (bytes : Bytes) → AllPrintable bytes ↔ AllByRecursion (λ b. is_unprintable b ≡ false) bytes

pub record PrintableLaws : Type 0 where
  pub each : PrintableByByte
  pub address : (address : Bytes) → IsLowerAddress address → AllPrintable address
