-- What stands behind the colon of a name: spaces, and a value that is plain or in base64.
use Rattle.std.proofs.Common.{◌≡◌, ◌⊎◌, inl, inr, ℕ, zero, suc, ◌<◌, Global, String, string_bytes, arith, Bool, true, false, ◌&&◌, cond, eqb, [], ◌∷◌, ◌++◌, Option, None, Some, Result, Ok, Err, drop, refl, sym, ◌∙◌, ap, subst, eqb-true}
use Rattle.std.proofs.lemmas.Bool.{and_parts, false≢true, not-true}
use Rattle.std.proofs.lemmas.Bool.Decides.{nat_tests}
use Rattle.std.proofs.lemmas.Str.{IsUtf8-from_ascii, IsUtf8-from_is_utf8, IsUtf8-string_bytes, is_utf8-from_IsUtf8}
use Rattle.std.specs.List.{list_all}
use Rattle.std.specs.Prelude.{not}
use Rattle.std.specs.Result.{result_ok}
use Rattle.std.specs.Str.{IsAscii, IsUtf8, is_utf8}
use Rattle.base64.specs.Engines.{standard}
use Rattle.base64.specs.GeneralPurpose.{decode_of}
use Rattle.pec_types.specs.Bytes.{Bytes, colon, space}
use Rattle.pec_ldif.specs.Attributes.{IsCodedValue, IsPlainValue, IsSpaced, is_plain, is_plain_byte, is_space, less_than}
use Rattle.pec_ldif.specs.AttributesReading.{decoded, only_utf8, or_fault, plain_of, skip_spaces, value_of}
use Rattle.pec_ldif.specs.Lines.{begins_with}
use Rattle.pec_ldif.specs.declared.faults.LdifFault.{LdifFault}
use Rattle.pec_ldif.specs.declared.faults.LdifFault.TheVariants.{Syntax, BadBase64, NoDn, Change, Orphan, NoMemory}

-- what was read as a text is UTF-8
pub text_kept : (bytes : Bytes) (text : String Global) → string_bytes text ≡ bytes → Some (string_bytes text) ≡ only_utf8 (Some bytes)
text_kept bytes text is =
    let utf8 = subst IsUtf8 is (IsUtf8-string_bytes text) in
    ap Some is ∙ sym (ap (λ t. cond t (Some bytes) None) (is_utf8-from_IsUtf8 bytes utf8))

pub none_kept : (bytes : Bytes) → (IsUtf8 bytes → ⊥) → None ≡ only_utf8 (Some bytes)
none_kept bytes other = by_test (is_utf8 bytes) refl
  where
    by_test : (x : Bool) → is_utf8 bytes ≡ x → None ≡ cond x (Some bytes) None
    by_test true is = absurd (other (IsUtf8-from_is_utf8 bytes is))
    by_test false is = refl

plain_ascii : (b : ℕ) → is_plain_byte b ≡ true → b < 128
plain_ascii b e = grind (arith, nat_tests)

all_ascii : (value : Bytes) → list_all is_plain_byte value ≡ true → IsAscii value
all_ascii [] e i = omega arith
all_ascii (b ∷ bs) e zero = plain_ascii b (and_parts (is_plain_byte b) (list_all is_plain_byte bs) e).0
all_ascii (b ∷ bs) e (suc i) = all_ascii bs (and_parts (is_plain_byte b) (list_all is_plain_byte bs) e).1 i

-- a plain value is ASCII
pub plain_utf8 : (value : Bytes) → is_plain value ≡ true → IsUtf8 value
plain_utf8 value e =
    IsUtf8-from_ascii value
    (all_ascii value (and_parts (not (begins_with colon value) && not (begins_with less_than value)) (list_all is_plain_byte value) e).1)

abbrev pub given : Bytes → Result Bytes LdifFault
given value = Ok value

abbrev pub refused : LdifFault → Result Bytes LdifFault
refused fault = Err fault

-- ---- spaces

space_more : (b : ℕ) (bs : Bytes) (t : Bool) → is_space b ≡ t → IsSpaced bs (skip_spaces bs) → IsSpaced (b ∷ bs) (cond t (skip_spaces bs) (b ∷ bs))
space_more b bs true e more = record {
  spaces = b ∷ more.spaces;
  each = ap (λ t. t && list_all is_space more.spaces) e ∙ more.each;
  first = more.first;
  parts = ap (λ xs. b ∷ xs) more.parts;
}
space_more b bs false e more = record { spaces = []; each = refl; first = e; parts = refl }

pub skipped : (bytes : Bytes) → IsSpaced bytes (skip_spaces bytes)
skipped [] = record { spaces = []; each = refl; first = refl; parts = refl }
skipped (b ∷ bs) = space_more b bs (is_space b) refl (skipped bs)

pub skip_again : (spaces rest : Bytes) → list_all is_space spaces ≡ true → begins_with space rest ≡ false → skip_spaces (spaces ++ rest) ≡ rest
skip_again [] [] each first = refl
skip_again [] (b ∷ bs) each first = ap (λ t. cond t (skip_spaces bs) (b ∷ bs)) first
skip_again (s ∷ ss) rest each first =
    let both = and_parts (is_space s) (list_all is_space ss) each
    in ap (λ t. cond t (skip_spaces (ss ++ rest)) (s ∷ (ss ++ rest))) both.0 ∙ skip_again ss rest both.1 first

pub spaces_again : (bytes rest : Bytes) → IsSpaced bytes rest → skip_spaces bytes ≡ rest
spaces_again bytes rest is = ap skip_spaces is.parts ∙ skip_again is.spaces rest is.each is.first

no_colon_behind : (spaces value : Bytes) → list_all is_space spaces ≡ true → begins_with colon value ≡ false → begins_with colon (spaces ++ value) ≡ false
no_colon_behind [] value each other = other
no_colon_behind (s ∷ ss) value each other =
    let both = and_parts (is_space s) (list_all is_space ss) each
    in ap (λ b. eqb b colon) (eqb-true s space both.0)

pub colon_first : (rest : Bytes) → begins_with colon rest ≡ true → rest ≡ colon ∷ drop 1 rest
colon_first [] e = absurd (false≢true e)
colon_first (b ∷ bs) e = ap (λ x. x ∷ bs) (eqb-true b colon e)

-- ---- base64

pub decoded_again : (code value : Bytes) → decode_of standard code ≡ Ok value → is_utf8 value ≡ true → decoded code ≡ Some value
unfolding decoded
decoded_again code value e utf8 = ap (λ r. only_utf8 (result_ok r)) e ∙ ap (λ t. cond t (Some value) None) utf8

some_is : (x y : Bytes) → Some x ≡ Some y → x ≡ y
some_is x y e = cc

utf8_is : (bytes value : Bytes) (t : Bool) → is_utf8 bytes ≡ t → cond t (Some bytes) None ≡ Some value → (bytes ≡ value) × (is_utf8 value ≡ true)
utf8_is bytes value true e h = (some_is bytes value h, subst (λ x. is_utf8 x ≡ true) (some_is bytes value h) e)
utf8_is bytes value false e h = absurd cc

abbrev IsDecoded : Bytes → Bytes → Type 0
IsDecoded code value = (decode_of standard code ≡ Ok value) × (is_utf8 value ≡ true)

decoded_by : {E : Type 0} (r : Result Bytes E) (value : Bytes) → only_utf8 (result_ok r) ≡ Some value → (r ≡ Ok value) × (is_utf8 value ≡ true)
decoded_by (Err fault) value e = absurd cc
decoded_by (Ok bytes) value e = let is = utf8_is bytes value (is_utf8 bytes) refl e in (ap (λ x. Ok x) is.0, is.1)

pub decoded_is : (code value : Bytes) → decoded code ≡ Some value → IsDecoded code value
unfolding decoded
decoded_is code value e = decoded_by (decode_of standard code) value e

-- ---- values

-- what is answered for what stands behind a colon
abbrev pub ValueSays : ℕ → Bytes → Result Bytes LdifFault → Type 0
ValueSays place rest (Ok value) = IsPlainValue rest value ⊎ IsCodedValue rest value
ValueSays place rest (Err (Syntax at)) = (at ≡ place) × (begins_with colon rest ≡ false)
ValueSays place rest (Err (BadBase64 at)) = (at ≡ place) × (rest ≡ colon ∷ drop 1 rest)
ValueSays place rest (Err (NoDn at)) = ⊥
ValueSays place rest (Err (Change at)) = ⊥
ValueSays place rest (Err (Orphan at)) = ⊥
ValueSays place rest (Err NoMemory) = ⊥

coded_says : (place : ℕ) (rest : Bytes) (o : Option Bytes) → begins_with colon rest ≡ true → decoded (skip_spaces (drop 1 rest)) ≡ o
    → ValueSays place rest (or_fault (BadBase64 place) o)
coded_says place rest None e d = (refl, colon_first rest e)
coded_says place rest (Some value) e d =
    let is = decoded_is (skip_spaces (drop 1 rest)) value d
    in inr (record {
      coded = drop 1 rest;
      code = skip_spaces (drop 1 rest);
      is_coded = colon_first rest e;
      spaced = skipped (drop 1 rest);
      decoded = is.0;
      utf8 = is.1;
    })

plain_says : (place : ℕ) (rest : Bytes) (t : Bool) → begins_with colon rest ≡ false → is_plain (skip_spaces rest) ≡ t
    → ValueSays place rest (cond t (given (skip_spaces rest)) (refused (Syntax place)))
plain_says place rest true e p = inl (skipped rest, p)
plain_says place rest false e p = (refl, e)

says_by : (place : ℕ) (rest : Bytes) (t : Bool) → begins_with colon rest ≡ t
    → ValueSays place rest (cond t (or_fault (BadBase64 place) (decoded (skip_spaces (drop 1 rest)))) (plain_of place (skip_spaces rest)))
unfolding plain_of
says_by place rest true e = coded_says place rest (decoded (skip_spaces (drop 1 rest))) e refl
says_by place rest false e = plain_says place rest (is_plain (skip_spaces rest)) e refl

pub value_says : (place : ℕ) (rest : Bytes) → ValueSays place rest (value_of place rest)
unfolding value_of
value_says place rest = says_by place rest (begins_with colon rest) refl

plain_parts : (value : Bytes) → is_plain value ≡ true → begins_with colon value ≡ false
plain_parts value e =
    not-true (begins_with colon value)
    (and_parts (not (begins_with colon value)) (not (begins_with less_than value))
    (and_parts (not (begins_with colon value) && not (begins_with less_than value)) (list_all is_plain_byte value) e).0).0

pub plain_again : (place : ℕ) (rest value : Bytes) → IsPlainValue rest value → value_of place rest ≡ Ok value
unfolding value_of plain_of
plain_again place rest value is =
    let none = ap (begins_with colon) is.0.parts ∙ no_colon_behind is.0.spaces value is.0.each (plain_parts value is.1) in
    ap (λ t. cond t (or_fault (BadBase64 place) (decoded (skip_spaces (drop 1 rest)))) (plain_of place (skip_spaces rest))) none
    ∙ (ap (plain_of place) (spaces_again rest value is.0) ∙ ap (λ t. cond t (given value) (refused (Syntax place))) is.1)

pub coded_again : (place : ℕ) (rest value : Bytes) → IsCodedValue rest value → value_of place rest ≡ Ok value
unfolding value_of
coded_again place rest value is =
    ap (value_of place) is.is_coded
    ∙ (ap (λ code. or_fault (BadBase64 place) (decoded code)) (spaces_again is.coded is.code is.spaced)
    ∙ ap (or_fault (BadBase64 place)) (decoded_again is.code value is.decoded is.utf8))
