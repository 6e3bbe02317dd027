-- Numbers in decimal. `IsNumber` is the one spelling with no sign and no zero in front, and `number_below` reads it;
-- `digits_number` lets zeros stand in front. This project's profile.
use Rattle.std.specs.Prelude.{◌≡◌, ℕ, ◌+◌, ◌-◌, ◌*◌, ◌^◌, ◌<◌, Bool, false, ◌&&◌, not, ◌==◌, nat_lt, [], ◌∷◌, length, decimal, Option, Some, None, if◌then◌else◌}
use Rattle.std.specs.Char.{is_ascii_digit}
use Rattle.std.specs.List.{list_all}
use Rattle.pec_types.specs.Bytes.{Bytes, digit_zero}
use Rattle.pec_types.specs.Options.{◌>>=◌}

-- The text is this number as it is printed, and the number is below this bound.
abbrev pub IsNumber : ℕ → Bytes → ℕ → Type 0
IsNumber bound text number = (text ≡ decimal number) × (number < bound)

-- one digit or more, and nothing else
abbrev pub is_digits : Bytes → Bool
is_digits text = not (length text == 0) && list_all is_ascii_digit text

-- what digits are worth behind a number
abbrev pub worth_behind : ℕ → Bytes → ℕ
worth_behind number [] = number
worth_behind number (digit ∷ digits) = worth_behind (10 * number + (digit - digit_zero)) digits

-- a number, where it is below a bound
abbrev pub below : ℕ → ℕ → Option ℕ
below bound number = if nat_lt number bound then Some number else None

-- The number that digits give, with zeros in front or without. It is below 2 ^ 64.
unfoldable pub digits_number : Bytes → Option ℕ
digits_number text = if is_digits text then below (2 ^ 64) (worth_behind 0 text) else None

-- a zero, and more behind it
abbrev pub has_zero_in_front : Bytes → Bool
has_zero_in_front [] = false
has_zero_in_front (first ∷ rest) = first == digit_zero && not (length rest == 0)

-- The number below a bound that a text is.
unfoldable pub number_below : ℕ → Bytes → Option ℕ
number_below bound text = if has_zero_in_front text then None else (digits_number text >>= below bound)
