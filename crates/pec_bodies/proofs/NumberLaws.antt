-- The numbers that a line takes: those that the first digits behind its front spell.
use Rattle.std.proofs.Common.{◌≡◌, ℕ, ◌+◌, ◌-◌, ◌*◌, ◌^◌, ◌<◌, ◌≤◌, Bool, true, false, not, ◌&&◌, ◌||◌, eqb, ltb, List, [], ◌∷◌, ◌++◌, length, take, drop, get_or, set, refl, sym, ◌∙◌, ap, inl, inr, ◌⊎◌, arith, rules, suc}
use Rattle.std.proofs.Math.Bool.{or-false, or-true}
use Rattle.std.proofs.Math.Seq.{take-append_seam}
use Rattle.std.proofs.lemmas.Bool.{false≢true, eqb-true, eq-eqb, ne_eqb, ltb-true, ltb-false, lt-ltb, leb-true, and_parts, and_from, or_cases, or_left, or_right, or_from, and_right, and_left}
use Rattle.std.proofs.lemmas.Bool.Decides.{same_from_decides}
use Rattle.std.proofs.lemmas.Fmt.{decimal-digits_value, digits_decimal, digits_value-decimal, decimal_nonempty, first_decimal, decimal_digit}
use Rattle.std.proofs.lemmas.Grind.{get_or-set_at}
use Rattle.std.proofs.lemmas.List.{at_drop_more, get_or-set_other, take-append-drop}
use Rattle.std.proofs.lemmas.Slice.Eq.{bytes_eq-Decides}
use Rattle.std.proofs.lemmas.Str.Parse.{IsNumeralModel, numerals_by_fold}
use Rattle.std.specs.Char.{is_ascii_digit}
use Rattle.std.specs.Fmt.{decimal}
use Rattle.std.specs.List.{list_all}
use Rattle.pec_bodies.specs.Composing.{begins, boundary_number}
use Rattle.pec_bodies.specs.Marks.{dashed}
use Rattle.pec_bodies.specs.Numbers.{is_marked, number_front}

-- ---- fronts

begins_so : (front rest : List ℕ) → begins front (front ++ rest) ≡ true
begins_so front rest = (bytes_eq-Decides front (take (length front) (front ++ rest))).1 (sym (take-append_seam front rest))

pub begins_then : (front text : List ℕ) → begins front text ≡ true → text ≡ front ++ drop (length front) text
begins_then front text e =
    let same : front ≡ take (length front) text = (bytes_eq-Decides front (take (length front) text)).0 e
    in sym (take-append-drop (length front) text) ∙ ap (λ xs. xs ++ drop (length front) text) (sym same)

and_both : (x y z : Bool) → (x && (y && z)) ≡ ((x && y) && z)
and_both true y z = refl
and_both false y z = refl

begins-append : (front more text : List ℕ) → begins (front ++ more) text ≡ (begins front text && begins more (drop (length front) text))
begins-append [] more text = refl
begins-append (b ∷ front) more [] = refl
begins-append (b ∷ front) more (c ∷ text) =
    ap (λ x. eqb b c && x) (begins-append front more text) ∙ and_both (eqb b c) (begins front text) (begins more (drop (length front) text))

-- ---- what digits spell

abbrev pub with_digit : ℕ → ℕ → ℕ
with_digit n c = 10 * n + (c - 48)

-- k is spelled by the number n and some of the digits behind it; behind a leading zero stands none
abbrev pub spells_behind : ℕ → List ℕ → ℕ → Bool
spells_behind n [] k = false
spells_behind n (c ∷ cs) k = is_ascii_digit c && (eqb k (with_digit n c) || (ltb 0 (with_digit n c) && spells_behind (with_digit n c) cs k))

-- what digits are worth behind a number
abbrev read_on : ℕ → List ℕ → ℕ
read_on n [] = n
read_on n (c ∷ cs) = read_on (with_digit n c) cs

own : IsNumeralModel (λ ds. list_all is_ascii_digit ds ≡ true) (read_on 0)
own = numerals_by_fold _ (search rules) read_on (search rules)

-- k is spelled by n and these digits, with which the text begins
record Spells (n : ℕ) (text : List ℕ) (k : ℕ) : Type 0 where
  digits : List ℕ
  rest : List ℕ
  text_is : text ≡ digits ++ rest
  all_digits : list_all is_ascii_digit digits ≡ true
  some : 0 < length digits
  value : read_on n digits ≡ k
  alone : n ≡ 0 → get_or digits 0 0 ≡ 48 → length digits ≡ 1

by_digit : (n c : ℕ) (cs : List ℕ) (k : ℕ) → is_ascii_digit c ≡ true
    → (eqb k (with_digit n c) ≡ true) ⊎ ((ltb 0 (with_digit n c) && spells_behind (with_digit n c) cs k) ≡ true)
    → (spells_behind (with_digit n c) cs k ≡ true → Spells (with_digit n c) cs k) → Spells n (c ∷ cs) k
by_digit n c cs k digit (inl e) next = record {
  digits = c ∷ [];
  rest = cs;
  text_is = refl;
  all_digits = and_from (is_ascii_digit c) true digit refl;
  some = omega arith;
  value = sym (eqb-true k (with_digit n c) e);
  alone = λ zero first. refl;
}
by_digit n c cs k digit (inr e) next =
    let p = and_parts (ltb 0 (with_digit n c)) (spells_behind (with_digit n c) cs k) e
    in let h : Spells (with_digit n c) cs k = next p.1
    in let above : 0 < with_digit n c = ltb-true 0 (with_digit n c) p.0
    in record {
      digits = c ∷ h.digits;
      rest = h.rest;
      text_is = ap (λ xs. c ∷ xs) h.text_is;
      all_digits = and_from (is_ascii_digit c) (list_all is_ascii_digit h.digits) digit h.all_digits;
      some = omega arith;
      value = h.value;
      alone = λ (zero : n ≡ 0) (first : c ≡ 48). absurd (omega arith);
    }

spells_from : (n : ℕ) (text : List ℕ) (k : ℕ) → spells_behind n text k ≡ true → Spells n text k
spells_from n [] k e = absurd (false≢true e)
spells_from n (c ∷ cs) k e =
    let p = and_parts (is_ascii_digit c) (eqb k (with_digit n c) || (ltb 0 (with_digit n c) && spells_behind (with_digit n c) cs k)) e
    in by_digit n c cs k p.0 (or_cases (eqb k (with_digit n c)) (ltb 0 (with_digit n c) && spells_behind (with_digit n c) cs k) p.1) (λ more. spells_from (with_digit n c) cs k more)

digit_from : (c : ℕ) → is_ascii_digit c ≡ true → 48 ≤ c
digit_from c e = leb-true 48 c (and_parts _ _ e).0

spells_to : (n : ℕ) (digits rest : List ℕ) (k : ℕ) → list_all is_ascii_digit digits ≡ true → 0 < length digits → read_on n digits ≡ k
    → (n ≡ 0 → get_or digits 0 0 ≡ 48 → length digits ≡ 1) → spells_behind n (digits ++ rest) k ≡ true
spells_to n [] rest k all some value alone = absurd (omega (arith, some))
spells_to n (c ∷ []) rest k all some value alone =
    and_from (is_ascii_digit c) _ (and_parts (is_ascii_digit c) true all).0 (or_left (eqb k (with_digit n c)) _ (eq-eqb k (with_digit n c) (sym value)))
spells_to n (c ∷ d ∷ ds) rest k all some value alone =
    let p = and_parts (is_ascii_digit c) (list_all is_ascii_digit (d ∷ ds)) all
    in let from : 48 ≤ c = digit_from c p.0
    in let above : 0 < with_digit n c = above_zero n c (length ds) from alone (ltb 0 (with_digit n c)) refl
    in and_from (is_ascii_digit c) _ p.0
    (or_right (eqb k (with_digit n c)) _
    (and_from (ltb 0 (with_digit n c)) _ (lt-ltb 0 (with_digit n c) above)
    (spells_to (with_digit n c) (d ∷ ds) rest k p.1 (omega arith) value (λ zero first. absurd (omega (arith, above, zero))))))
  where
    above_zero : (n c more : ℕ) → 48 ≤ c → (n ≡ 0 → c ≡ 48 → suc (suc more) ≡ 1) → (x : Bool) → ltb 0 (with_digit n c) ≡ x → 0 < with_digit n c
    above_zero n c more from alone true above = ltb-true 0 (with_digit n c) above
    above_zero n c more from alone false none =
        let zero : with_digit n c ≤ 0 = ltb-false 0 (with_digit n c) none
        in absurd (omega (arith, alone (omega arith) (omega arith)))

-- ---- decimals

alone_zero : (k : ℕ) → k < 2 ^ 64 → (x : Bool) → ltb 0 k ≡ x → get_or (decimal k) 0 0 ≡ 48 → length (decimal k) ≡ 1
alone_zero k small true above first =
    let more : 48 < get_or (decimal k) 0 0 = first_decimal k (ltb-true 0 k above) small in let h : ⊥ = omega arith in absurd h
alone_zero k small false none first = let le : k ≤ 0 = ltb-false 0 k none in ap length (decimal_digit k (omega arith))

spelled_begins : (text : List ℕ) (k : ℕ) → k < 2 ^ 64 → Spells 0 text k → begins (decimal k) text ≡ true
spelled_begins text k small h =
    let worth : decimal (read_on 0 h.digits) ≡ h.digits = decimal-digits_value own h.digits h.all_digits h.some (h.alone refl) (omega (arith, h.value))
    in let is : decimal k ≡ h.digits = ap decimal (sym h.value) ∙ worth
    in ap (begins (decimal k)) (h.text_is ∙ ap (λ xs. xs ++ h.rest) (sym is)) ∙ begins_so (decimal k) h.rest

begins_spelled : (text : List ℕ) (k : ℕ) → k < 2 ^ 64 → begins (decimal k) text ≡ true → spells_behind 0 text k ≡ true
begins_spelled text k small e =
    let rest : List ℕ = drop (length (decimal k)) text
    in ap (λ xs. spells_behind 0 xs k) (begins_then (decimal k) text e)
    ∙ spells_to 0 (decimal k) rest k (digits_decimal own k small) (decimal_nonempty k small) (digits_value-decimal own k small) (λ zero first. alone_zero k small (ltb 0 k) refl first)

-- what the first digits of a text spell are the numbers with which it begins
pub spells_is : (text : List ℕ) (k : ℕ) → k < 2 ^ 64 → spells_behind 0 text k ≡ begins (decimal k) text
spells_is text k small =
    same_from_decides {P = begins (decimal k) text ≡ true} (spells_behind 0 text k) (begins (decimal k) text)
    ((λ e. spelled_begins text k small (spells_from 0 text k e)), λ e. begins_spelled text k small e)
    ((λ e. e), λ e. e)

-- ---- the walk over the digits

past_by : (n c : ℕ) (cs : List ℕ) (k : ℕ) → k < with_digit n c → spells_behind (with_digit n c) cs k ≡ false → spells_behind n (c ∷ cs) k ≡ false
past_by n c cs k below none =
    and_right (is_ascii_digit c) _ (or_from (eqb k (with_digit n c)) _ (ne_eqb k (with_digit n c) (λ e. omega arith)) (and_right (ltb 0 (with_digit n c)) _ none))

-- digits behind a number spell none below it
below_none : (n : ℕ) (cs : List ℕ) (k : ℕ) → k < n → spells_behind n cs k ≡ false
below_none n [] k below = refl
below_none n (c ∷ cs) k below = past_by n c cs k (omega arith) (below_none (with_digit n c) cs k (omega arith))

pub past_none : (n : ℕ) (text : List ℕ) (i k : ℕ) → i < length text → k < with_digit n (get_or text i 0) → spells_behind n (drop i text) k ≡ false
past_none n text i k inside below =
    at_drop_more (λ xs. spells_behind n xs k) text i 0 inside
    ∙ past_by n (get_or text i 0) (drop (i + 1) text) k below (below_none (with_digit n (get_or text i 0)) (drop (i + 1) text) k below)

-- a digit that makes 0 spells it, and no digit behind it spells anything
pub lone_zero : (n : ℕ) (text : List ℕ) (i k : ℕ) → i < length text → is_ascii_digit (get_or text i 0) ≡ true → with_digit n (get_or text i 0) ≡ 0
    → spells_behind n (drop i text) k ≡ eqb k 0
lone_zero n text i k inside digit zero =
    at_drop_more (λ xs. spells_behind n xs k) text i 0 inside
    ∙ ap (λ t. t && (eqb k (with_digit n (get_or text i 0)) || (ltb 0 (with_digit n (get_or text i 0)) && spells_behind (with_digit n (get_or text i 0)) (drop (i + 1) text) k))) digit
    ∙ ap (λ w. eqb k w || (ltb 0 w && spells_behind w (drop (i + 1) text) k)) zero
    ∙ or-false (eqb k 0)

-- one mark more
pub marked_one : (marks : List Bool) (at k : ℕ) → at < length marks → is_marked (set marks at true) k ≡ (is_marked marks k || eqb k at)
marked_one marks at k inside = by_place marks at k inside (eqb k at) refl
  where
    by_place : (marks : List Bool) (at k : ℕ) → at < length marks → (t : Bool) → eqb k at ≡ t → is_marked (set marks at true) k ≡ (is_marked marks k || t)
    by_place marks at k inside true e = get_or-set_at marks at k true false (eqb-true k at e) inside ∙ sym (or-true (is_marked marks k))
    by_place marks at k inside false e = get_or-set_other marks at k true false (λ same. false≢true (sym e ∙ eq-eqb k at same)) ∙ sym (or-false (is_marked marks k))

-- ---- lines

-- what a line takes is what the text behind its front begins with
pub takes_behind : (line tail : List ℕ) (k : ℕ) → line ≡ number_front ++ tail → begins (dashed (boundary_number k)) line ≡ begins (decimal k) tail
unfolding boundary_number
takes_behind line tail k e = ap (begins (dashed (boundary_number k))) e

pub takes_none : (line : List ℕ) (k : ℕ) → begins number_front line ≡ false → begins (dashed (boundary_number k)) line ≡ false
unfolding boundary_number
takes_none line k e = begins-append number_front (decimal k) line ∙ and_left (begins number_front line) _ e

-- ---- the digits of a number

pub digits_pass : (test : ℕ → Bool) → ((c : ℕ) → 48 ≤ c → c ≤ 57 → test c ≡ true) → (n : ℕ) → n < 2 ^ 64 → list_all test (decimal n) ≡ true
digits_pass test passes n small = all_pass test passes (decimal n) (digits_decimal own n small)
  where
    all_pass : (test : ℕ → Bool) → ((c : ℕ) → 48 ≤ c → c ≤ 57 → test c ≡ true) → (ds : List ℕ) → list_all is_ascii_digit ds ≡ true → list_all test ds ≡ true
    all_pass test passes [] e = refl
    all_pass test passes (c ∷ cs) e =
        let p = and_parts (is_ascii_digit c) (list_all is_ascii_digit cs) e
        in let bounds = and_parts _ _ p.0
        in and_from (test c) (list_all test cs) (passes c (leb-true 48 c bounds.0) (leb-true c 57 bounds.1)) (all_pass test passes cs p.1)

-- a digit is no such byte
pub digit_other : (b : ℕ) → (c : ℕ) → (c ≡ b → ⊥) → not (eqb c b) ≡ true
digit_other b c other = ap not (ne_eqb c b other)
