-- Words without a space and without an end of a line: `IsPlain`.
use Rattle.std.proofs.Common.{◌≡◌, ℕ, zero, suc, ◌+◌, ◌*◌, ◌/◌, ◌%◌, ◌^◌, ◌<◌, ◌≤◌, Bool, true, false, not, ◌&&◌, eqb, List, [], ◌∷◌, ◌++◌, length, replicate, get_or, refl, sym, ◌∙◌, ap, arith, rules}
use Rattle.std.proofs.lemmas.Bool.{and_from, and_parts, false≢true}
use Rattle.std.proofs.lemmas.Fmt.{digits_decimal}
use Rattle.std.proofs.lemmas.List.{length-append}
use Rattle.std.proofs.lemmas.Str.Parse.{IsNumeralModel, numerals_by_fold}
use Rattle.std.specs.Char.{is_ascii_digit}
use Rattle.std.specs.Fmt.{decimal}
use Rattle.std.specs.List.{list_all}
use Rattle.base64.specs.Engines.{standard}
use Rattle.base64.specs.GeneralPurpose.{encode_of}
use Rattle.base64.specs.Rfc4648.{encode_symbols, padding_len}
use Rattle.pec_types.specs.Bytes.{Bytes, carriage_return, line_feed, space}
use Rattle.pec_words.specs.Cuts.{Lacks}
use Rattle.pec_words.specs.Numbers.{worth_behind}

-- no space, no line feed and no carriage return stands in the text
pub record IsPlain (bytes : Bytes) : Type 0 where
  pub spaceless : Lacks space bytes
  pub feedless : Lacks line_feed bytes
  pub returnless : Lacks carriage_return bytes

lacks_by : (p : ℕ → Bool) (c : ℕ) → p c ≡ false → (bytes : Bytes) → list_all p bytes ≡ true → Lacks c bytes
lacks_by p c fails [] h = tt
lacks_by p c fails (b ∷ bs) h =
    let parts : (p b ≡ true) × (list_all p bs ≡ true) = and_parts (p b) (list_all p bs) h in
    ((λ e. false≢true (sym fails ∙ (ap p (sym e) ∙ parts.0))), lacks_by p c fails bs parts.1)

plain_by : (p : ℕ → Bool) → p space ≡ false → p line_feed ≡ false → p carriage_return ≡ false → (bytes : Bytes)
    → list_all p bytes ≡ true → IsPlain bytes
plain_by p s f r bytes h = record {
  spaceless = lacks_by p space s bytes h;
  feedless = lacks_by p line_feed f bytes h;
  returnless = lacks_by p carriage_return r bytes h;
}

pub lacks_append : (c : ℕ) (xs ys : Bytes) → Lacks c xs → Lacks c ys → Lacks c (xs ++ ys)
lacks_append c [] ys h k = k
lacks_append c (x ∷ xs) ys h k = (h.0, lacks_append c xs ys h.1 k)

pub plain_append : (xs ys : Bytes) → IsPlain xs → IsPlain ys → IsPlain (xs ++ ys)
plain_append xs ys h k = record {
  spaceless = lacks_append space xs ys h.spaceless k.spaceless;
  feedless = lacks_append line_feed xs ys h.feedless k.feedless;
  returnless = lacks_append carriage_return xs ys h.returnless k.returnless;
}

-- ---- texts that are written out

abbrev pub is_plain : ℕ → Bool
is_plain b = not (eqb b space) && (not (eqb b line_feed) && not (eqb b carriage_return))

pub plain_text : (bytes : Bytes) → list_all is_plain bytes ≡ true → IsPlain bytes
plain_text bytes h = plain_by is_plain refl refl refl bytes h

-- ---- numbers

own : IsNumeralModel (λ ds. list_all is_ascii_digit ds ≡ true) (worth_behind 0)
own = numerals_by_fold _ (search rules) worth_behind (search rules)

pub decimal_digits : (n : ℕ) → n < 2 ^ 64 → list_all is_ascii_digit (decimal n) ≡ true
decimal_digits n small = digits_decimal own n small

pub plain_decimal : (n : ℕ) → n < 2 ^ 64 → IsPlain (decimal n)
plain_decimal n small = plain_by is_ascii_digit refl refl refl (decimal n) (decimal_digits n small)

-- ---- base64

-- what holds of each item of a list, and past its end, holds wherever it is looked up
at_each : (p : ℕ → Bool) (xs : List ℕ) → p 0 ≡ true → list_all p xs ≡ true → (k : ℕ) → p (get_or xs k 0) ≡ true
at_each p [] past h k = past
at_each p (x ∷ xs) past h zero = (and_parts (p x) (list_all p xs) h).0
at_each p (x ∷ xs) past h (suc k) = at_each p xs past (and_parts (p x) (list_all p xs) h).1 k

all_append : (p : ℕ → Bool) (xs ys : List ℕ) → list_all p xs ≡ true → list_all p ys ≡ true → list_all p (xs ++ ys) ≡ true
all_append p [] ys h k = k
all_append p (x ∷ xs) ys h k =
    let parts : (p x ≡ true) × (list_all p xs ≡ true) = and_parts (p x) (list_all p xs) h in
    and_from (p x) (list_all p (xs ++ ys)) parts.0 (all_append p xs ys parts.1 k)

all_same : (p : ℕ → Bool) (n x : ℕ) → p x ≡ true → list_all p (replicate n x) ≡ true
all_same p zero x h = refl
all_same p (suc n) x h = and_from (p x) (list_all p (replicate n x)) h (all_same p n x h)

symbols_pass : (p : ℕ → Bool) (t : List ℕ) → ((k : ℕ) → p (get_or t k 0) ≡ true) → (m : List ℕ)
    → list_all p (encode_symbols t m) ≡ true
unfolding encode_symbols
symbols_pass p t each [] = refl
symbols_pass p t each (a ∷ []) =
    and_from _ _ (each (a / 4)) (and_from _ _ (each (a % 4 * 16)) refl)
symbols_pass p t each (a ∷ b ∷ []) =
    and_from _ _ (each (a / 4)) (and_from _ _ (each (a % 4 * 16 + b / 16)) (and_from _ _ (each (b % 16 * 4)) refl))
symbols_pass p t each (a ∷ b ∷ c ∷ rest) =
    and_from _ _ (each (a / 4)) (and_from _ _ (each (a % 4 * 16 + b / 16)) (and_from _ _ (each (b % 16 * 4 + c / 64))
    (and_from _ _ (each (c % 64)) (symbols_pass p t each rest))))

table_plain : list_all is_plain standard.encode_table ≡ true
table_plain = refl

pub plain_base64 : (m : Bytes) → IsPlain (encode_of standard m)
plain_base64 m =
    plain_text (encode_of standard m)
    (all_append is_plain (encode_symbols standard.encode_table m) (replicate (padding_len (length m)) 61)
    (symbols_pass is_plain standard.encode_table (at_each is_plain standard.encode_table refl table_plain) m)
    (all_same is_plain (padding_len (length m)) 61 refl))

-- ---- how long base64 is

symbols_short : (t m : List ℕ) → length (encode_symbols t m) ≤ 2 * length m
unfolding encode_symbols
symbols_short t [] = omega arith
symbols_short t (a ∷ []) = omega arith
symbols_short t (a ∷ b ∷ []) = omega arith
symbols_short t (a ∷ b ∷ c ∷ rest) = let less : length (encode_symbols t rest) ≤ 2 * length rest = symbols_short t rest in omega arith

same_length : (n x : ℕ) → length (replicate n x) ≡ n
same_length zero x = refl
same_length (suc n) x = let less : length (replicate n x) ≡ n = same_length n x in omega arith

padding_short : (n : ℕ) → padding_len n ≤ 2
padding_short n = omega arith

pub base64_short : (m : Bytes) → length (encode_of standard m) ≤ 2 * length m + 2
base64_short m =
    let symbols : Bytes = encode_symbols standard.encode_table m in
    let padding : Bytes = replicate (padding_len (length m)) 61 in
    omega (arith, length-append symbols padding, symbols_short standard.encode_table m, same_length (padding_len (length m)) 61, padding_short (length m))
