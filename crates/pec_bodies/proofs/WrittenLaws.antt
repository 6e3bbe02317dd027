-- What is written of a parameter is read: the pieces of a written value, the name and the value of its second one, and the boundary
-- of a composed body.
use Rattle.std.proofs.Common.{◌≡◌, ℕ, ◌+◌, ◌^◌, ◌<◌, ◌≤◌, ◌&&◌, inl, List, [], ◌∷◌, ◌++◌, Bool, true, false, not, eqb, ltb, cond, Some, length, refl, ap, sym, ◌∙◌, arith, append_assoc, length-append}
use Rattle.std.proofs.Math.Path.{subst}
use Rattle.std.proofs.lemmas.Bool.{and_from, and_left, and_parts, le-ltb, ne_eqb, not-true, or_from}
use Rattle.std.proofs.lemmas.Fmt.{length-decimal-le}
use Rattle.std.proofs.lemmas.List.{append-nil}
use Rattle.std.proofs.lemmas.List.Folds.{list_all-append}
use Rattle.std.specs.Fmt.{decimal}
use Rattle.std.specs.List.{list_all}
use Rattle.std.specs.Option.{option_and_then}
use Rattle.std.specs.Prelude.{codes, slice_get}
use Rattle.std.specs.Str.{str_eq_ignore_ascii_case}
use Rattle.pec_types.specs.Bytes.{equals_sign, is_quote, quote, semicolon, space}
use Rattle.pec_heads.specs.Bytes.{IsTrimmed, NonePass, begins_blank, ends_blank, is_blank, trimmed}
use Rattle.pec_heads.specs.Heads.{NamedValue, is_control, is_name, values_of}
use Rattle.pec_heads.specs.WrittenHeads.{CanStand, field, shown}
use Rattle.pec_heads.specs.declared.TheConstants.{LINE_LIMIT}
use Rattle.pec_bodies.proofs.BoundaryLaws.{boundary_says, given}
use Rattle.pec_bodies.proofs.NumberLaws.{digit_other, digits_pass}
use Rattle.pec_bodies.proofs.ParameterLaws.{all_quoted, nothing_left, parameter_again, quoted_cons}
use Rattle.pec_bodies.proofs.PieceLemmas.{AllQuotedFrom}
use Rattle.pec_bodies.specs.Composing.{boundary_number, composed_type}
use Rattle.pec_bodies.specs.Parameters.{AllQuoted, HasNoQuote, IsBoundary, IsFirstPiece, IsParameterName, in_quotes, is_multipart, is_semicolon, leaves_open, with_parameter}
use Rattle.pec_bodies.specs.ParametersReading.{boundary_in, boundary_of, parameter_of}

-- ---- bytes with no quote

closed : (bytes : List ℕ) → NonePass is_quote bytes → leaves_open bytes ≡ false
closed [] none = refl
closed (b ∷ bs) none =
    let p = and_parts (not (is_quote b)) (list_all (λ c. not (is_quote c)) bs) none
    in ap (λ t. cond t (not (leaves_open bs)) (leaves_open bs)) (not-true (is_quote b) p.0) ∙ closed bs p.1

-- bytes with neither quotes nor `;` in front of others
quoted_behind : (plain bytes : List ℕ) → NonePass is_quote plain → NonePass is_semicolon plain → AllQuotedFrom false bytes → AllQuotedFrom false (plain ++ bytes)
quoted_behind [] bytes quotes marks h = h
quoted_behind (b ∷ plain) bytes quotes marks h =
    let p = and_parts (not (is_quote b)) (list_all (λ c. not (is_quote c)) plain) quotes
    in let m = and_parts (not (is_semicolon b)) (list_all (λ c. not (is_semicolon c)) plain) marks
    in quoted_cons false b (plain ++ bytes) (not-true (is_semicolon b) m.0)
    (subst (λ t. AllQuotedFrom (cond t true false) (plain ++ bytes)) (sym (not-true (is_quote b) p.0)) (quoted_behind plain bytes p.1 m.1 h))

nothing_quoted : (q : Bool) → AllQuotedFrom q []
nothing_quoted q = λ front back e. absurd (nothing_left front back semicolon e)

-- a value with no quote, in quotes that are closed behind it
value_quoted : (value : List ℕ) → NonePass is_quote value → AllQuotedFrom true (value ++ quote ∷ [])
value_quoted [] none = quoted_cons true quote [] refl (nothing_quoted false)
value_quoted (b ∷ value) none =
    let p = and_parts (not (is_quote b)) (list_all (λ c. not (is_quote c)) value) none
    in quoted_cons true b (value ++ quote ∷ []) refl
    (subst (λ t. AllQuotedFrom (cond t false true) (value ++ quote ∷ [])) (sym (not-true (is_quote b) p.0)) (value_quoted value p.1))

-- ---- the pieces of a written value

-- the second piece, without the blank in front
abbrev named_text : List ℕ → List ℕ → List ℕ
named_text name value = name ++ equals_sign ∷ in_quotes value

first_quoted : (first : List ℕ) → IsFirstPiece first → AllQuoted first
first_quoted first h =
    all_quoted first (subst (AllQuotedFrom false) (append-nil first) (quoted_behind first [] h.no_quote h.no_semicolon (nothing_quoted false)))

second_quoted : (name value : List ℕ) → IsParameterName name → HasNoQuote value → AllQuoted (space ∷ named_text name value)
second_quoted name value h v =
    all_quoted (space ∷ named_text name value)
    (quoted_cons false space (named_text name value) refl
    (quoted_behind name (equals_sign ∷ in_quotes value) h.no_quote h.no_semicolon
    (quoted_cons false equals_sign (in_quotes value) refl (quoted_cons false quote (value ++ quote ∷ []) refl (value_quoted value v)))))

-- ---- blanks

ends_as : (front : List ℕ) (b : ℕ) → ends_blank (front ++ b ∷ []) ≡ is_blank b
ends_as [] b = refl
ends_as (c ∷ []) b = refl
ends_as (c ∷ d ∷ front) b = ends_as (d ∷ front) b

begins_as : (name rest : List ℕ) → begins_blank name ≡ false → begins_blank (name ++ equals_sign ∷ rest) ≡ false
begins_as [] rest h = refl
begins_as (b ∷ name) rest h = h

text_ends : (name value : List ℕ) → ends_blank (named_text name value) ≡ false
text_ends name value = ap ends_blank (sym (append_assoc name (equals_sign ∷ quote ∷ value) (quote ∷ []))) ∙ ends_as (name ++ equals_sign ∷ quote ∷ value) quote

cut_of_blank : (name value : List ℕ) → IsParameterName name → IsTrimmed (space ∷ named_text name value) (named_text name value)
cut_of_blank name value h = record {
  left = space ∷ [];
  right = [];
  parts = ap (λ xs. space ∷ xs) (sym (append-nil (named_text name value)));
  left_blank = refl;
  right_blank = refl;
  begins = begins_as name (in_quotes value) h.no_blank;
  ends = text_ends name value;
}

-- ---- the law

-- what the law of blanks says of trimming
abbrev pub IsTrimming : Type 0
IsTrimming = (bytes value : List ℕ) → IsTrimmed bytes value → trimmed bytes ≡ value

pub written_is_read : IsTrimming → (first name wanted value : List ℕ) → IsFirstPiece first → IsParameterName name → str_eq_ignore_ascii_case name wanted ≡ true → HasNoQuote value
    → parameter_of wanted (with_parameter first name value) ≡ Some value
written_is_read trims first name wanted value f n same v = parameter_again wanted (with_parameter first name value) value (record {
  first = first;
  before = [];
  piece = space ∷ named_text name value;
  after = [];
  pieces = (space ∷ named_text name value, (record { parts = refl; quoted = first_quoted first f; closed = closed first f.no_quote }, (refl, second_quoted name value n v)));
  others = tt;
  named = record {
    before = name;
    behind = in_quotes value;
    parts = trims (space ∷ named_text name value) (named_text name value) (cut_of_blank name value n);
    first = n.no_equals;
    same = same;
    value_is = inl refl;
  };
})

-- ---- the boundary of a composed body

number_no_quote : (n : ℕ) → n < 2 ^ 64 → HasNoQuote (boundary_number n)
unfolding boundary_number
number_no_quote n small = digits_pass (λ c. not (is_quote c)) (λ c over under. digit_other quote c (λ e. omega (arith, over, e))) n small

number_long : (n : ℕ) → n < 2 ^ 64 → length (boundary_number n) ≤ 26
unfolding boundary_number
number_long n small = omega (arith, length-decimal-le 20 n (omega arith) (omega arith) small)

number_some : (n : ℕ) → 1 ≤ length (boundary_number n)
unfolding boundary_number
number_some n = omega arith

within_limit : (k : ℕ) → k ≤ 26 → k ≤ 70
within_limit k h = omega arith

type_is_multipart : (n : ℕ) → is_multipart (composed_type n) ≡ true
unfolding is_multipart
type_is_multipart n = refl

boundary_is_read : IsTrimming → (n : ℕ) → n < 2 ^ 64 → boundary_in (composed_type n) ≡ Some (boundary_number n)
boundary_is_read trims n small =
    given (composed_type n) (boundary_number n) (type_is_multipart n)
    (written_is_read trims (codes "multipart/mixed") (codes "boundary") (codes "boundary") (boundary_number n) (record { no_quote = refl; no_semicolon = refl })
    (record { no_quote = refl; no_semicolon = refl; no_equals = refl; no_blank = refl }) refl (number_no_quote n small))
    (number_some n) (within_limit (length (boundary_number n)) (number_long n small))

type_gives : IsTrimming → (head : List NamedValue) (n : ℕ) (others : List (List ℕ)) → n < 2 ^ 64 → values_of (codes "Content-Type") head ≡ composed_type n ∷ others
    → boundary_of head ≡ Some (boundary_number n)
unfolding boundary_of
type_gives trims head n others small e = ap (λ values. option_and_then boundary_in (slice_get values 0)) e ∙ boundary_is_read trims n small

pub type_is_read : IsTrimming → (head : List NamedValue) (n : ℕ) (others : List (List ℕ)) → n < 2 ^ 64 → values_of (codes "Content-Type") head ≡ composed_type n ∷ others
    → IsBoundary head (boundary_number n)
type_is_read trims head n others small e = boundary_says head (boundary_number n) (type_gives trims head n others small e)

-- ---- the type in a head

-- what the law of fields of one line says
abbrev pub LinesStand : Type 0
LinesStand = (name value : List ℕ) → is_name name ≡ true → NonePass is_control value → length name + 2 + length value ≤ LINE_LIMIT → CanStand (field name value)

abbrev pub LinesAreShown : Type 0
LinesAreShown = (name value : List ℕ) → shown (field name value) ≡ record { name = name; value = trimmed value }

digit_plain : (c : ℕ) → 48 ≤ c → c ≤ 57 → not (is_control c) ≡ true
digit_plain c over under =
    ap not
    (or_from (ltb c 32 && not (eqb c 9)) (eqb c 127) (and_left (ltb c 32) (not (eqb c 9)) (le-ltb c 32 (omega (arith, over)))) (ne_eqb c 127 (λ e. omega (arith, under, e))))

type_plain : (n : ℕ) → n < 2 ^ 64 → NonePass is_control (composed_type n)
unfolding boundary_number
type_plain n small =
    list_all-append (λ c. not (is_control c)) (decimal n) (quote ∷ [])
    ∙ and_from (list_all (λ c. not (is_control c)) (decimal n)) true (digits_pass (λ c. not (is_control c)) digit_plain n small) refl

type_name : is_name (codes "Content-Type") ≡ true
unfolding is_name
type_name = refl

type_long : (n : ℕ) → n < 2 ^ 64 → 12 + 2 + length (composed_type n) ≤ 998
type_long n small = omega (arith, number_long n small, length-append (boundary_number n) (quote ∷ []))

pub type_stands : LinesStand → (n : ℕ) → n < 2 ^ 64 → CanStand (field (codes "Content-Type") (composed_type n))
type_stands stands n small = stands (codes "Content-Type") (composed_type n) type_name (type_plain n small) (type_long n small)

type_trimmed : IsTrimming → (n : ℕ) → trimmed (composed_type n) ≡ composed_type n
type_trimmed trims n = trims (composed_type n) (composed_type n) (record {
  left = [];
  right = [];
  parts = sym (append-nil (composed_type n));
  left_blank = refl;
  right_blank = refl;
  begins = refl;
  ends = ends_as (codes "multipart/mixed; boundary=\"" ++ boundary_number n) quote;
})

pub type_is_shown : IsTrimming → LinesAreShown → (n : ℕ) → shown (field (codes "Content-Type") (composed_type n)) ≡ record { name = codes "Content-Type"; value = composed_type n }
type_is_shown trims shows n =
    shows (codes "Content-Type") (composed_type n) ∙ ap (λ value. record { name = codes "Content-Type"; value = value }) (type_trimmed trims n)
