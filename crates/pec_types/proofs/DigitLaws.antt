-- Seven digits and the number that they stand for.
use Rattle.std.proofs.Common.{◌≡◌, ℕ, ◌+◌, ◌*◌, ◌/◌, ◌%◌, ◌<◌, length, refl, arith}
use Rattle.pec_types.specs.Words.{number_in, seven_digits}

-- a digit is what a place holds above ten times the next place
ten_times : (n : ℕ) → n ≡ n / 10 * 10 + n % 10
ten_times n = omega arith

tens : (n : ℕ) → n / 100 ≡ n / 10 / 10
tens n = omega arith

pub digits_back : (number : ℕ) → number < 10000000 → number_in (seven_digits number) ≡ number
unfolding seven_digits number_in
digits_back n below = omega arith

pub are_seven : (number : ℕ) → length (seven_digits number) ≡ 7
unfolding seven_digits
are_seven n = refl
