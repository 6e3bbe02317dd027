-- Nine digits are a number below 1,000,000,000.
use Rattle.std.proofs.Common.{◌≡◌, ℕ, zero, suc, ◌+◌, ◌-◌, ◌*◌, ◌^◌, ◌<◌, ◌≤◌, Bool, true, false, cond, not, eqb, ltb, [], ◌∷◌, length, None, Some, refl, arith}
use Rattle.std.specs.Char.{is_ascii_digit}
use Rattle.std.specs.List.{list_all}
use Rattle.std.proofs.lemmas.Bool.{and_parts}
use Rattle.std.proofs.lemmas.Bool.Decides.{nat_tests}
use Rattle.std.proofs.lemmas.Option.{none-some, same_Some}
use Rattle.pec_types.specs.Bytes.{Bytes}
use Rattle.pec_words.specs.Numbers.{below, digits_number, is_digits, worth_behind}

-- ten, so often times itself
abbrev tens : ℕ → ℕ
tens zero = 1
tens (suc n) = 10 * tens n

digit_below : (c : ℕ) → is_ascii_digit c ≡ true → c - 48 ≤ 9
digit_below c e = grind (arith, nat_tests)

times_more : (a b t : ℕ) → a ≤ b → a * t ≤ b * t
times_more a b zero le = omega arith
times_more a b (suc t) le = omega (arith, times_more a b t le)

worth_below : (n : ℕ) (cs : Bytes) → list_all is_ascii_digit cs ≡ true → worth_behind n cs + 1 ≤ (n + 1) * tens (length cs)
worth_below n [] each = omega arith
worth_below n (c ∷ cs) each =
    let both = and_parts (is_ascii_digit c) (list_all is_ascii_digit cs) each in
    let low = digit_below c both.0 in
    let next = worth_below (10 * n + (c - 48)) cs both.1 in
    let most : (10 * n + (c - 48) + 1) * tens (length cs) ≤ (10 * (n + 1)) * tens (length cs) =
    times_more (10 * n + (c - 48) + 1) (10 * (n + 1)) (tens (length cs)) (omega (arith, low)) in
    omega (arith, next, most)

tens_up : (m n : ℕ) → m ≤ n → tens m ≤ tens n
tens_up zero zero le = omega arith
tens_up zero (suc n) le = omega (arith, tens_up zero n (omega arith))
tens_up (suc m) zero le = absurd (omega arith)
tens_up (suc m) (suc n) le = omega (arith, tens_up m n (omega arith))

told_is : (m n : ℕ) (t : Bool) → cond t (Some m) None ≡ Some n → m ≡ n
told_is m n true e = same_Some m n e
told_is m n false e = absurd (none-some n e)

pub short_below : (text : Bytes) (n : ℕ) → length text ≤ 9 → digits_number text ≡ Some n → n < 1000000000
unfolding digits_number
short_below text n short e = by_digits (is_digits text) refl e
  where
    by_digits : (t : Bool) → is_digits text ≡ t → cond t (below (2 ^ 64) (worth_behind 0 text)) None ≡ Some n → n < 1000000000
    by_digits true is e =
        let each = (and_parts (not (eqb (length text) 0)) (list_all is_ascii_digit text) is).1 in
        let worth : worth_behind 0 text ≡ n = told_is (worth_behind 0 text) n (ltb (worth_behind 0 text) (2 ^ 64)) e in
        omega (arith, worth, worth_below 0 text each, tens_up (length text) 9 short)
    by_digits false is e = absurd (none-some n e)
