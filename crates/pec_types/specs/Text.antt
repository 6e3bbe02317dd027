-- Printable texts: bytes from 0x20 to 0x7e. This project's profile.
use Rattle.std.specs.Prelude.{◌≡◌, ℕ, List, Bool, ◌||◌, nat_lt, position, None, Some}
use Rattle.pec_types.specs.Bytes.{Bytes}
use Rattle.pec_types.specs.declared.texts.TextFault.{TextFault}
use Rattle.pec_types.specs.declared.texts.TextFault.TheVariants.{NotPrintable, NoMemory}

abbrev pub is_unprintable : ℕ → Bool
is_unprintable b = nat_lt b 32 || nat_lt 126 b

-- no byte is outside 0x20 to 0x7e
abbrev pub AllPrintable : List ℕ → Type 0
AllPrintable bytes = position is_unprintable bytes ≡ None

-- these bytes make this text
abbrev pub IsTextOf : Bytes → Bytes → Type 0
IsTextOf bytes text = AllPrintable bytes × (text ≡ bytes)

-- why bytes make none
abbrev pub IsTextFault : Bytes → TextFault → Type 0
IsTextFault bytes (NotPrintable place) = position is_unprintable bytes ≡ Some place
IsTextFault bytes NoMemory = ⊥
