-- Digits, gone through one by one in numbers below 2 ^ 64: what they are worth by `Numbers`, where that is below 2 ^ 64.
use Rattle.std.specs.Prelude.{ℕ, ◌+◌, ◌-◌, ◌*◌, ◌^◌, [], ◌∷◌, Option, Some}
use Rattle.pec_types.specs.Bytes.{Bytes, digit_zero}
use Rattle.pec_types.specs.Options.{◌>>=◌}
use Rattle.pec_words.specs.Numbers.{below}

-- a number with a digit behind it
abbrev pub with_digit : ℕ → ℕ → Option ℕ
with_digit number digit = below (2 ^ 64) (10 * number + (digit - digit_zero))

-- a number with digits behind it
abbrev pub with_digits : ℕ → Bytes → Option ℕ
with_digits number [] = Some number
with_digits number (digit ∷ digits) = with_digit number digit >>= λ more. with_digits more digits
