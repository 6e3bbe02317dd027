-- A text is read as a number exactly where the number is printed so.
use Rattle.std.proofs.Common.{◌≡◌, ℕ, ◌+◌, ◌-◌, ◌*◌, ◌^◌, ◌<◌, ◌≤◌, ◌↔◌, Bool, true, false, cond, not, ◌&&◌, eqb, ltb, List, [], ◌∷◌, length, get_or, Option, Some, None, option_and_then, refl, sym, ◌∙◌, ap, subst, arith, rules, eqb-true, ltb-true, ltb-false, le-ltb, lt-ltb}
use Rattle.std.specs.Char.{is_ascii_digit}
use Rattle.std.specs.Fmt.{decimal}
use Rattle.std.specs.List.{list_all}
use Rattle.std.proofs.lemmas.Bool.{and_parts, false≢true, eqb-false, ne_eqb}
use Rattle.std.proofs.lemmas.Fmt.{decimal-digits_value, digits_decimal, digits_value-decimal, decimal_nonempty, first_decimal, decimal_digit}
use Rattle.std.proofs.lemmas.Option.{none-some, same_Some}
use Rattle.std.proofs.lemmas.Str.Parse.{IsNumeralModel, numerals_by_fold}
use Rattle.pec_words.specs.NumberSteps.{with_digits}
use Rattle.pec_words.specs.Numbers.{IsNumber, below, digits_number, has_zero_in_front, is_digits, number_below, worth_behind}

own : IsNumeralModel (λ ds. list_all is_ascii_digit ds ≡ true) (worth_behind 0)
own = numerals_by_fold _ (search rules) worth_behind (search rules)

-- ---- below a bound

below_told : (bound m n : ℕ) (x : Bool) → ltb m bound ≡ x → cond x (Some m) None ≡ Some n → (m ≡ n) × (m < bound)
below_told bound m n true small e = (same_Some m n e, ltb-true m bound small)
below_told bound m n false large e = absurd (none-some n e)

below_again : (bound n : ℕ) → n < bound → below bound n ≡ Some n
below_again bound n small = ap (λ x. cond x (Some n) None) (lt-ltb n bound small)

-- ---- digit by digit

worth_more : (n : ℕ) (cs : List ℕ) → n ≤ worth_behind n cs
worth_more n [] = omega arith
worth_more n (c ∷ cs) = omega (arith, worth_more (10 * n + (c - 48)) cs)

step_is : (n c : ℕ) (cs : List ℕ) (x : Bool) → ltb (10 * n + (c - 48)) (2 ^ 64) ≡ x
    → (10 * n + (c - 48) < 2 ^ 64 → with_digits (10 * n + (c - 48)) cs ≡ below (2 ^ 64) (worth_behind (10 * n + (c - 48)) cs))
    → option_and_then (λ more. with_digits more cs) (cond x (Some (10 * n + (c - 48))) None) ≡ below (2 ^ 64) (worth_behind (10 * n + (c - 48)) cs)
step_is n c cs true small next = next (ltb-true (10 * n + (c - 48)) (2 ^ 64) small)
step_is n c cs false large next =
    let over : 2 ^ 64 ≤ worth_behind (10 * n + (c - 48)) cs = omega (arith, ltb-false (10 * n + (c - 48)) (2 ^ 64) large, worth_more (10 * n + (c - 48)) cs) in
    sym (ap (λ x. cond x (Some (worth_behind (10 * n + (c - 48)) cs)) None) (le-ltb (worth_behind (10 * n + (c - 48)) cs) (2 ^ 64) over))

worth_from : (n : ℕ) (cs : List ℕ) → n < 2 ^ 64 → with_digits n cs ≡ below (2 ^ 64) (worth_behind n cs)
worth_from n [] small = sym (below_again (2 ^ 64) n small)
worth_from n (c ∷ cs) small = step_is n c cs (ltb (10 * n + (c - 48)) (2 ^ 64)) refl (λ fits. worth_from (10 * n + (c - 48)) cs fits)

pub with_digits_is : (digits : List ℕ) → with_digits 0 digits ≡ below (2 ^ 64) (worth_behind 0 digits)
with_digits_is digits = worth_from 0 digits (omega arith)

-- ---- what is read is printed so

-- digits, and what they are worth
record IsWorth (text : List ℕ) (n : ℕ) : Type 0 where
  digits : list_all is_ascii_digit text ≡ true
  some : 0 < length text
  worth : worth_behind 0 text ≡ n
  small : worth_behind 0 text < 2 ^ 64

some_of : (n : ℕ) → not (eqb n 0) ≡ true → 0 < n
some_of n h = by_test (eqb n 0) refl h
  where
    by_test : (x : Bool) → eqb n 0 ≡ x → not x ≡ true → 0 < n
    by_test true e h = absurd (false≢true h)
    by_test false e h = let other : n ≡ 0 → ⊥ = eqb-false n 0 e in omega (arith, other)

worth_told : (text : List ℕ) (n : ℕ) (x : Bool) → is_digits text ≡ x → cond x (below (2 ^ 64) (worth_behind 0 text)) None ≡ Some n → IsWorth text n
worth_told text n true is e =
    let parts : (not (eqb (length text) 0) ≡ true) × (list_all is_ascii_digit text ≡ true) = and_parts (not (eqb (length text) 0)) (list_all is_ascii_digit text) is in
    let told : (worth_behind 0 text ≡ n) × (worth_behind 0 text < 2 ^ 64) = below_told (2 ^ 64) (worth_behind 0 text) n (ltb (worth_behind 0 text) (2 ^ 64)) refl e in
    record { digits = parts.1; some = some_of (length text) parts.0; worth = told.0; small = told.1 }
worth_told text n false is e = absurd (none-some n e)

-- a zero in front stands alone
alone : (text : List ℕ) → has_zero_in_front text ≡ false → 0 < length text → get_or text 0 0 ≡ 48 → length text ≡ 1
alone [] none some zero = absurd (omega arith)
alone (c ∷ cs) none some zero = by_rest (eqb (length cs) 0) refl (sym (ap (λ b. eqb b 48 && not (eqb (length cs) 0)) zero) ∙ none)
  where
    by_rest : (x : Bool) → eqb (length cs) 0 ≡ x → not x ≡ false → length (c ∷ cs) ≡ 1
    by_rest true e h = let none_left : length cs ≡ 0 = eqb-true (length cs) 0 e in omega arith
    by_rest false e h = absurd (false≢true (sym h))

in_digits : (bound : ℕ) (text : List ℕ) (n : ℕ) (o : Option ℕ) → digits_number text ≡ o → has_zero_in_front text ≡ false
    → option_and_then (below bound) o ≡ Some n → IsNumber bound text n
unfolding digits_number
in_digits bound text n None read none e = absurd (none-some n e)
in_digits bound text n (Some m) read none e =
    let told : (m ≡ n) × (m < bound) = below_told bound m n (ltb m bound) refl e in
    let is : IsWorth text m = worth_told text m (is_digits text) refl read in
    let printed : decimal (worth_behind 0 text) ≡ text = decimal-digits_value own text is.digits is.some (alone text none is.some) is.small in
    (sym printed ∙ ap decimal (is.worth ∙ told.0), subst (λ k. k < bound) told.0 told.1)

by_front : (bound : ℕ) (text : List ℕ) (n : ℕ) (x : Bool) → has_zero_in_front text ≡ x
    → cond x None (option_and_then (below bound) (digits_number text)) ≡ Some n → IsNumber bound text n
by_front bound text n true zero e = absurd (none-some n e)
by_front bound text n false none e = in_digits bound text n (digits_number text) refl none e

-- ---- what is printed is read so

printed_front : (n : ℕ) → n < 2 ^ 64 → has_zero_in_front (decimal n) ≡ false
printed_front n small = by_size (ltb 0 n) refl
  where
    no_zero : (text : List ℕ) → 48 < get_or text 0 0 → has_zero_in_front text ≡ false
    no_zero [] high = refl
    no_zero (c ∷ cs) high = let other : c ≡ 48 → ⊥ = λ e. (let h : ⊥ = omega arith in h) in ap (λ x. x && not (eqb (length cs) 0)) (ne_eqb c 48 other)

    by_size : (x : Bool) → ltb 0 n ≡ x → has_zero_in_front (decimal n) ≡ false
    by_size true above = no_zero (decimal n) (first_decimal n (ltb-true 0 n above) small)
    by_size false none =
        let le : n ≤ 0 = ltb-false 0 n none in
        let is : n ≡ 0 = omega arith in
        ap has_zero_in_front (decimal_digit n (omega arith)) ∙ ap (λ k. has_zero_in_front ((48 + k) ∷ [])) is

printed_digits : (n : ℕ) → n < 2 ^ 64 → digits_number (decimal n) ≡ Some n
unfolding digits_number
printed_digits n small =
    let some : eqb (length (decimal n)) 0 ≡ false = ne_eqb (length (decimal n)) 0 (λ e. (let h : ⊥ = omega (arith, decimal_nonempty n small) in h)) in
    let is : is_digits (decimal n) ≡ true = ap (λ x. not x && list_all is_ascii_digit (decimal n)) some ∙ digits_decimal own n small in
    ap (λ x. cond x (below (2 ^ 64) (worth_behind 0 (decimal n))) None) is
    ∙ (ap (below (2 ^ 64)) (digits_value-decimal own n small) ∙ below_again (2 ^ 64) n small)

read_again : (bound : ℕ) (text : List ℕ) (n : ℕ) → bound ≤ 2 ^ 64 → IsNumber bound text n → cond (has_zero_in_front text) None (option_and_then (below bound) (digits_number text)) ≡ Some n
read_again bound text n fits is =
    let small : n < 2 ^ 64 = omega (arith, is.1) in
    ap (λ x. cond x None (option_and_then (below bound) (digits_number text))) (ap has_zero_in_front is.0 ∙ printed_front n small)
    ∙ (ap (option_and_then (below bound)) (ap digits_number is.0 ∙ printed_digits n small) ∙ below_again bound n is.1)

pub one_spelling : (bound : ℕ) (text : List ℕ) (n : ℕ) → bound ≤ 2 ^ 64 → (number_below bound text ≡ Some n) ↔ IsNumber bound text n
unfolding number_below
one_spelling bound text n fits = ((λ e. by_front bound text n (has_zero_in_front text) refl e), (λ is. read_again bound text n fits is))
