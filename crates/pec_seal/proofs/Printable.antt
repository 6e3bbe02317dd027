-- Texts of printable bytes: where they end, their parts, and that base64 is one.
use Rattle.std.proofs.Common.{◌≡◌, ℕ, zero, suc, ◌+◌, ◌*◌, ◌/◌, ◌%◌, ◌<◌, ◌≤◌, Bool, true, false, not, List, [], ◌∷◌, ◌++◌, length, take, replicate, slice_index, refl, sym, ◌∙◌, arith, Some, None, ltb, nat_lt, ◌||◌, cond, inl, inr}
use Rattle.std.specs.List.{list_all, position, position_or_len}
use Rattle.std.proofs.lemmas.Bool.{and_from, and_parts, both_ways, cases_lt, le-ltb, lt-ltb, ltb-false, not-true}
use Rattle.std.proofs.lemmas.List.{get_or_at, get_or_append_left, get_or-take, get_or_default, length-append, length-take-le}
use Rattle.std.proofs.lemmas.List.Folds.{list_all-append}
use Rattle.std.proofs.lemmas.List.Quantifiers.{position-Some}
use Rattle.std.proofs.lemmas.List.Sums.{AllPass-from_list_all, list_all-from_AllPass, prefix_len_is, prefix_len_passes}
use Rattle.base64.specs.GeneralPurpose.{IsBytes, encode_of}
use Rattle.base64.specs.Rfc4648.{encode_symbols, padding_len}
use Rattle.base64.specs.declared.engine.general_purpose.GeneralPurpose.{GeneralPurpose}
use Rattle.base64.proofs.Tables.{are_tables_alphabet, is_alphabet_symbol}
use Rattle.pec_types.specs.Text.{is_unprintable, AllPrintable}

abbrev is_printable : ℕ → Bool
is_printable b = not (is_unprintable b)

-- the test that computes, for what `AllPrintable` says
abbrev pub are_printable : List ℕ → Bool
are_printable bytes = list_all is_printable bytes

none_at : (n m : ℕ) → cond (ltb n m) (Some n) None ≡ None → m ≤ n
none_at n m =
    elim (ltb n m) as (λ b. ltb n m ≡ b → cond b (Some n) None ≡ None → m ≤ n) [
      | true ↦ λ _ e. cc e
      | false ↦ λ e _. ltb-false n m e
    ] refl

pub are_printable_from : (bytes : List ℕ) → AllPrintable bytes → are_printable bytes ≡ true
are_printable_from bytes none =
    let all = none_at (position_or_len is_unprintable bytes) (length bytes) none in
    list_all-from_AllPass is_printable bytes (λ k d lt. prefix_len_passes is_printable bytes k d (omega (arith, all, lt)))

pub AllPrintable_from : (bytes : List ℕ) → are_printable bytes ≡ true → AllPrintable bytes
AllPrintable_from bytes all =
    let pass = AllPass-from_list_all is_printable bytes all in
    let end : position_or_len is_unprintable bytes ≡ length bytes =
    prefix_len_is is_printable bytes (length bytes) 0 (omega arith) (λ k lt. pass k 0 lt) (λ lt. absurd (omega (arith, lt))) in
    rw (end, le-ltb (length bytes) (length bytes) (omega arith)) refl

-- a printable text ends where the first other byte stands
pub position_at_end : (front rest : List ℕ) (b : ℕ) → are_printable front ≡ true → is_unprintable b ≡ true
    → position is_unprintable (front ++ b ∷ rest) ≡ Some (length front)
position_at_end front rest b all other =
    let whole : List ℕ = front ++ b ∷ rest in
    let pass = AllPass-from_list_all is_printable front all in
    let len : length whole ≡ length front + length (b ∷ rest) = length-append front (b ∷ rest) in
    let end : position_or_len is_unprintable whole ≡ length front =
    prefix_len_is is_printable whole (length front) 0 (omega arith)
    (λ k lt. rw (get_or_append_left front (b ∷ rest) 0 k lt) (pass k 0 lt))
    (λ _. rw (get_or_at front b rest 0 (length front) refl, other) refl) in
    rw (end, lt-ltb (length front) (length whole) (omega arith)) refl

pub are_printable-take : (text : List ℕ) (end : ℕ) → position is_unprintable text ≡ Some end
    → are_printable (take end text) ≡ true
are_printable-take text end found =
    let at = position-Some is_unprintable text end 0 found in
    let len : length (take end text) ≡ end = length-take-le end text (omega arith) in
    list_all-from_AllPass is_printable (take end text)
    (λ k d lt. rw (get_or-take end text k d (omega arith), get_or_default text k d 0 (omega arith), at.2 k (omega arith)) refl)

pub are_printable-append : (a b : List ℕ) → are_printable a ≡ true → are_printable b ≡ true
    → are_printable (a ++ b) ≡ true
are_printable-append a b left right = list_all-append is_printable a b ∙ and_from _ _ left right

pub are_printable_parts : (a b : List ℕ) → are_printable (a ++ b) ≡ true
    → (are_printable a ≡ true) × (are_printable b ≡ true)
are_printable_parts a b both = and_parts _ _ (sym (list_all-append is_printable a b) ∙ both)

or_right : (x y : Bool) → y ≡ true → (x || y) ≡ true
or_right true y e = refl
or_right false y e = e

below : (b : ℕ) → is_printable b ≡ true → b < 256
below b passes = elim (cases_lt 126 b) as (λ _. b < 256) [
  | inl above ↦ absurd (both_ways (is_unprintable b) (not-true _ passes) (or_right (nat_lt b 32) _ (lt-ltb 126 b above)))
  | inr within ↦ omega arith
]

pub IsBytes_from : (bytes : List ℕ) → are_printable bytes ≡ true → IsBytes bytes
IsBytes_from [] all i = omega arith
IsBytes_from (b ∷ bytes) all zero = below b (and_parts _ _ all).0
IsBytes_from (b ∷ bytes) all (suc i) = IsBytes_from bytes (and_parts _ _ all).1 i

-- ---- base64 is printable

plain : (b : ℕ) → 32 ≤ b → b ≤ 126 → is_printable b ≡ true
plain b low high = rw (le-ltb b 32 low, le-ltb 126 b high) refl

symbol : (e : GeneralPurpose) (k : ℕ) → k < 64 → is_printable (slice_index e.encode_table k) ≡ true
symbol e k lt =
    let alphabet = are_tables_alphabet e.encode_table e.decode_table e.padding.value e.tables in
    let in_range = is_alphabet_symbol e.encode_table e.padding.value k alphabet lt in
    plain _ in_range.0 in_range.1

symbols : (e : GeneralPurpose) (bytes : List ℕ) → IsBytes bytes
    → are_printable (encode_symbols e.encode_table bytes) ≡ true
unfolding encode_symbols
symbols e [] small = refl
symbols e (a ∷ []) small =
    let a_byte : a < 256 = small 0 in
    rw (symbol e (a / 4) (omega arith), symbol e (a % 4 * 16) (omega arith)) refl
symbols e (a ∷ b ∷ []) small =
    let a_byte : a < 256 = small 0 in
    let b_byte : b < 256 = small 1 in
    rw (symbol e (a / 4) (omega arith), symbol e (a % 4 * 16 + b / 16) (omega arith), symbol e (b % 16 * 4) (omega arith)) refl
symbols e (a ∷ b ∷ c ∷ rest) small =
    let a_byte : a < 256 = small 0 in
    let b_byte : b < 256 = small 1 in
    let c_byte : c < 256 = small 2 in
    let behind = symbols e rest (λ i. small (suc (suc (suc i)))) in
    let first = symbol e (a / 4) (omega arith) in
    let second = symbol e (a % 4 * 16 + b / 16) (omega arith) in
    let third = symbol e (b % 16 * 4 + c / 64) (omega arith) in
    rw (first, second, third, symbol e (c % 64) (omega arith), behind) refl

are_printable-replicate : (b n : ℕ) → is_printable b ≡ true → are_printable (replicate n b) ≡ true
are_printable-replicate b zero all = refl
are_printable-replicate b (suc n) all = rw (all, are_printable-replicate b n all) refl

pub are_printable-encode_of : (e : GeneralPurpose) (bytes : List ℕ) → IsBytes bytes
    → are_printable (encode_of e bytes) ≡ true
are_printable-encode_of e bytes small =
    are_printable-append (encode_symbols e.encode_table bytes) _ (symbols e bytes small) (padding e.config.encode_padding)
  where
    padding : (b : Bool) → are_printable (cond b (replicate (padding_len (length bytes)) e.padding.value) []) ≡ true
    padding true = are_printable-replicate e.padding.value _ (plain e.padding.value (omega arith) e.padding.printable.1)
    padding false = refl
