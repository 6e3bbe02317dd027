-- How many numbers the lines of parts take: no more than they have digits where a number stands, and so no more than bytes.
use Rattle.std.proofs.Common.{◌≡◌, ℕ, zero, suc, ◌+◌, ◌^◌, ◌<◌, ◌≤◌, Bool, true, false, ◌&&◌, ◌||◌, eqb, ltb, cond, List, [], ◌∷◌, ◌++◌, length, drop, refl, sym, subst, ◌∙◌, ap, arith, add-zero, length-drop}
use Rattle.std.proofs.lemmas.Bool.{eqb-true, ne_eqb}
use Rattle.std.proofs.lemmas.List.Sums.{prefix_len-le-length, sum_by-append, sum_by-cons}
use Rattle.std.specs.Char.{is_ascii_digit}
use Rattle.std.specs.List.{list_any, prefix_len, sum_by}
use Rattle.pec_heads.specs.Lines.{last_piece, size, whole_lines}
use Rattle.pec_bodies.proofs.LineFacts.{Sizes}
use Rattle.pec_bodies.proofs.NumberLaws.{begins_then, spells_behind, spells_is, takes_behind, takes_none, with_digit}
use Rattle.pec_bodies.specs.Composing.{all_lines, begins, boundary_number, bytes_of, boundary_taken}
use Rattle.pec_bodies.specs.Marks.{dashed}
use Rattle.pec_bodies.specs.Numbers.{digits_of, number_front, room_for, room_in}

-- ---- counting

abbrev one_if : Bool → ℕ
one_if true = 1
one_if false = 0

-- how many numbers below a limit pass a test
abbrev count_below : (ℕ → Bool) → ℕ → ℕ
count_below p zero = 0
count_below p (suc n) = one_if (p n) + count_below p n

count_none : (p : ℕ → Bool) (n : ℕ) → ((k : ℕ) → k < n → p k ≡ false) → count_below p n ≡ 0
count_none p zero h = refl
count_none p (suc n) h = omega (arith, ap one_if (h n (omega arith)), count_none p n (λ k below. h k (omega arith)))

count_all : (p : ℕ → Bool) (n : ℕ) → ((k : ℕ) → k < n → p k ≡ true) → count_below p n ≡ n
count_all p zero h = refl
count_all p (suc n) h = omega (arith, ap one_if (h n (omega arith)), count_all p n (λ k below. h k (omega arith)))

count_same : (p q : ℕ → Bool) (n : ℕ) → ((k : ℕ) → k < n → p k ≡ q k) → count_below p n ≡ count_below q n
count_same p q zero h = refl
count_same p q (suc n) h = omega (arith, ap one_if (h n (omega arith)), count_same p q n (λ k below. h k (omega arith)))

either_one : (a b : Bool) → one_if (a || b) ≤ one_if a + one_if b
either_one true b = omega arith
either_one false b = omega arith

count_or : (p q : ℕ → Bool) (n : ℕ) → count_below (λ k. p k || q k) n ≤ count_below p n + count_below q n
count_or p q zero = omega arith
count_or p q (suc n) = omega (arith, either_one (p n) (q n), count_or p q n)

count_and : (t : Bool) (p : ℕ → Bool) (n : ℕ) → count_below (λ k. t && p k) n ≤ count_below p n
count_and true p n = omega arith
count_and false p n = omega (arith, count_none (λ k. false) n (λ k below. refl))

-- a number is one of those below a limit once at most
count_one : (w n : ℕ) → count_below (λ k. eqb k w) n ≤ 1
count_one w zero = omega arith
count_one w (suc n) = one_step w n (eqb n w) refl (count_one w n)
  where
    one_step : (w n : ℕ) (t : Bool) → eqb n w ≡ t → count_below (λ k. eqb k w) n ≤ 1 → one_if t + count_below (λ k. eqb k w) n ≤ 1
    one_step w n true e h =
        let is : n ≡ w = eqb-true n w e
        in omega (arith, count_none (λ k. eqb k w) n (λ k below. ne_eqb k w (λ same. omega (arith, is, below, same))))
    one_step w n false e h = omega (arith, h)

count_any : {X : Type 0} (test : ℕ → X → Bool) (room : X → ℕ) (n : ℕ) → ((x : X) → count_below (λ k. test k x) n ≤ room x) → (xs : List X)
    → count_below (λ k. list_any (test k) xs) n ≤ sum_by room xs
count_any test room n h [] = omega (arith, count_none (λ k. false) n (λ k below. refl))
count_any test room n h (x ∷ xs) =
    omega (arith, sum_by-cons room x xs, h x, count_or (λ k. test k x) (λ k. list_any (test k) xs) n, count_any test room n h xs)

-- ---- the numbers that a line takes

-- each digit ends one number at most
count_digits : (n : ℕ) (text : List ℕ) (limit : ℕ) → count_below (λ k. spells_behind n text k) limit ≤ prefix_len is_ascii_digit text
count_digits n [] limit = omega (arith, count_none (λ k. false) limit (λ k below. refl))
count_digits n (c ∷ cs) limit = digit_step (is_ascii_digit c) n c cs limit (count_digits (with_digit n c) cs limit)
  where
    digit_step : (t : Bool) (n c : ℕ) (cs : List ℕ) (limit : ℕ) → count_below (λ k. spells_behind (with_digit n c) cs k) limit ≤ prefix_len is_ascii_digit cs
        → count_below (λ k. t && (eqb k (with_digit n c) || (ltb 0 (with_digit n c) && spells_behind (with_digit n c) cs k))) limit ≤ cond t (1 + prefix_len is_ascii_digit cs) 0
    digit_step true n c cs limit h =
        omega (
          arith,
          h,
          count_or (λ k. eqb k (with_digit n c)) (λ k. ltb 0 (with_digit n c) && spells_behind (with_digit n c) cs k) limit,
          count_one (with_digit n c) limit,
          count_and (ltb 0 (with_digit n c)) (λ k. spells_behind (with_digit n c) cs k) limit,
        )
    digit_step false n c cs limit h = omega (arith, count_none (λ k. false) limit (λ k below. refl))

count_line : (limit : ℕ) → limit ≤ 2 ^ 64 → (line : List ℕ) → count_below (λ k. begins (dashed (boundary_number k)) line) limit ≤ digits_of line
count_line limit small line = line_step limit small line (begins number_front line) refl
  where
    line_step : (limit : ℕ) → limit ≤ 2 ^ 64 → (line : List ℕ) (t : Bool) → begins number_front line ≡ t
        → count_below (λ k. begins (dashed (boundary_number k)) line) limit ≤ cond t (prefix_len is_ascii_digit (drop (length number_front) line)) 0
    line_step limit small line true e =
        let tail : List ℕ = drop (length number_front) line
        in let takes : (k : ℕ) → k < limit → begins (dashed (boundary_number k)) line ≡ spells_behind 0 tail k =
        λ k below. takes_behind line tail k (begins_then number_front line e) ∙ sym (spells_is tail k (omega arith))
        in omega (arith, count_same (λ k. begins (dashed (boundary_number k)) line) (λ k. spells_behind 0 tail k) limit takes, count_digits 0 tail limit)
    line_step limit small line false e =
        omega (arith, count_none (λ k. begins (dashed (boundary_number k)) line) limit (λ k below. takes_none line k e))

-- ---- the numbers that parts take

count_parts : (limit : ℕ) → limit ≤ 2 ^ 64 → (parts : List (List ℕ)) → count_below (λ k. boundary_taken (boundary_number k) parts) limit ≤ room_for parts
count_parts limit small parts =
    count_any (λ k part. list_any (begins (dashed (boundary_number k))) (all_lines part)) room_in limit
    (λ part. count_any (λ k line. begins (dashed (boundary_number k)) line) digits_of limit (count_line limit small) (all_lines part)) parts

-- where all numbers below a limit are taken, the lines have room for so many
pub all_taken : (parts : List (List ℕ)) (limit : ℕ) → limit ≤ 2 ^ 64 → ((k : ℕ) → k < limit → boundary_taken (boundary_number k) parts ≡ true) → limit ≤ room_for parts
all_taken parts limit small taken = omega (arith, count_all (λ k. boundary_taken (boundary_number k) parts) limit taken, count_parts limit small parts)

-- where they have room for none, the first number is free
pub first_free : (parts : List (List ℕ)) → room_for parts ≡ 0 → boundary_taken (boundary_number 0) parts ≡ false
first_free parts none = by_taken (boundary_taken (boundary_number 0) parts) refl
  where
    by_taken : (t : Bool) → boundary_taken (boundary_number 0) parts ≡ t → boundary_taken (boundary_number 0) parts ≡ false
    by_taken true taken =
        let one_of = λ (k : ℕ) (below : k < 1). let zeroth : 0 ≡ k = omega (arith, below) in subst (λ n. boundary_taken (boundary_number n) parts ≡ true) zeroth taken in
        absurd (omega (arith, none, all_taken parts 1 (omega arith) one_of))
    by_taken false free = free

-- ---- the room is no more than there are bytes

digits_le : (line : List ℕ) → digits_of line ≤ length line
digits_le line = by_front line (begins number_front line)
  where
    by_front : (line : List ℕ) (t : Bool) → cond t (prefix_len is_ascii_digit (drop (length number_front) line)) 0 ≤ length line
    by_front line true =
        omega (arith, prefix_len-le-length is_ascii_digit (drop (length number_front) line), length-drop (length number_front) line)
    by_front line false = omega arith

lines_le : (lines : List (List ℕ)) → sum_by digits_of lines ≤ size lines
lines_le [] = omega arith
lines_le (line ∷ lines) = omega (arith, sum_by-cons digits_of line lines, digits_le line, lines_le lines)

pub room_in_le : Sizes → (part : List ℕ) → room_in part ≤ length part
room_in_le sizes part =
    omega (
      arith,
      sum_by-append digits_of (whole_lines part) (last_piece part ∷ []),
      sum_by-cons digits_of (last_piece part) [],
      lines_le (whole_lines part),
      digits_le (last_piece part),
      sizes.text part,
    )

pub room_for_le : Sizes → (parts : List (List ℕ)) → room_for parts ≤ bytes_of parts
room_for_le sizes [] = omega arith
room_for_le sizes (part ∷ parts) = omega (arith, sum_by-cons room_in part parts, sum_by-cons (λ p. length p) part parts, room_in_le sizes part, room_for_le sizes parts)

-- the room of a text is that of its first line and of what is behind it
pub room_step : (text line behind : List ℕ) → whole_lines text ≡ line ∷ whole_lines behind → last_piece behind ≡ last_piece text → room_in text ≡ digits_of line + room_in behind
room_step text line behind lines last =
    ap (λ ls. sum_by digits_of (ls ++ last_piece text ∷ [])) lines
    ∙ sum_by-cons digits_of line (whole_lines behind ++ last_piece text ∷ [])
    ∙ ap (λ piece. digits_of line + sum_by digits_of (whole_lines behind ++ piece ∷ [])) (sym last)

-- the room of a text with no line is that of its last piece
pub room_last : (text : List ℕ) → whole_lines text ≡ [] → last_piece text ≡ text → room_in text ≡ digits_of text
room_last text none piece = ap (λ ls. sum_by digits_of (ls ++ last_piece text ∷ [])) none ∙ ap (λ p. sum_by digits_of (p ∷ [])) piece ∙ sum_by-cons digits_of text []
    ∙ add-zero (digits_of text)
