-- What is written of an attribute reads as that attribute, where its value is a text of bytes that show.
use Rattle.std.proofs.Common.{◌≡◌, inl, inr, ℕ, zero, suc, ◌+◌, ◌*◌, ◌/◌, ◌%◌, ◌<◌, Bool, true, false, not, ◌&&◌, ◌||◌, cond, eqb, [], ◌∷◌, ◌++◌, length, get_or, codes, replicate, Ok, refl, sym, ◌∙◌, ap, arith, eqb-true}
use Rattle.std.proofs.lemmas.Bool.{and_from, and_parts, eqb-false, false≢true}
use Rattle.std.proofs.lemmas.Bool.Decides.{nat_tests}
use Rattle.std.proofs.lemmas.List.Folds.{list_all-append}
use Rattle.std.proofs.lemmas.Str.{IsUtf8-from_ascii, is_utf8-from_IsUtf8}
use Rattle.std.specs.Char.{is_ascii_alphanumeric}
use Rattle.std.specs.List.{list_all}
use Rattle.std.specs.Str.{IsAscii, is_utf8}
use Rattle.base64.proofs.EngineFacts.{decode_of-encode_of}
use Rattle.base64.specs.Engines.{standard}
use Rattle.base64.specs.GeneralPurpose.{IsBytes, encode_of}
use Rattle.base64.specs.Rfc4648.{encode_symbols, padding_len}
use Rattle.pec_types.specs.Bytes.{Bytes, colon, space}
use Rattle.pec_directory.specs.Fields.{is_visible_byte}
use Rattle.pec_ldif.specs.Attributes.{Attribute, IsAttribute, IsSpaced, is_name, is_name_byte, is_plain, is_plain_byte, less_than}
use Rattle.pec_ldif.specs.AttributesReading.{attribute_of}
use Rattle.pec_ldif.specs.Lines.{Line, begins_with, hash}
use Rattle.pec_ldif.specs.Writing.{is_coded, line_said, value_said}
use Rattle.pec_ldif.proofs.AttributeLemmas.{attribute_told}
use Rattle.pec_ldif.proofs.WrittenLines.{IsWhole}

-- bytes that show
abbrev pub Shows : Bytes → Type 0
Shows text = list_all is_visible_byte text ≡ true

-- the attribute may be written: its name is one that doesn't begin as a comment, and its value shows
pub record IsWritable (attribute : Attribute) : Type 0 where
  pub name : is_name attribute.name ≡ true
  pub value : Shows attribute.value

-- ---- bytes

plain_byte : (b : ℕ) → is_visible_byte b ≡ true → is_plain_byte b ≡ true
plain_byte b e = grind (arith, nat_tests)

pub all_more : (p q : ℕ → Bool) → ((b : ℕ) → p b ≡ true → q b ≡ true) → (text : Bytes) → list_all p text ≡ true → list_all q text ≡ true
all_more p q each [] e = refl
all_more p q each (b ∷ bs) e =
    let both = and_parts (p b) (list_all p bs) e in
    and_from (q b) (list_all q bs) (each b both.0) (all_more p q each bs both.1)

pub shows_plain : (text : Bytes) → Shows text → list_all is_plain_byte text ≡ true
shows_plain text e = all_more is_visible_byte is_plain_byte plain_byte text e

no_space : (text : Bytes) → Shows text → begins_with space text ≡ false
no_space [] e = refl
no_space (b ∷ bs) e = let shows = (and_parts (is_visible_byte b) (list_all is_visible_byte bs) e).0 in grind (arith, nat_tests)

-- ---- base64

-- the 64 symbols
abbrev alphabet : Bytes
alphabet = codes "ABCDEFGHIJKLMNOPQRSTUVWXYZabcdefghijklmnopqrstuvwxyz0123456789+/"

-- each of so many first symbols shows
abbrev first_show : ℕ → Bool
first_show zero = true
first_show (suc n) = is_visible_byte (get_or alphabet n 0) && first_show n

shows_below : (n : ℕ) → first_show n ≡ true → (i : ℕ) → i < n → is_visible_byte (get_or alphabet i 0) ≡ true
shows_below zero e i below = absurd (omega arith)
shows_below (suc n) e i below =
    let both = and_parts (is_visible_byte (get_or alphabet n 0)) (first_show n) e in
    by_place (eqb i n) refl both.0 (λ small. shows_below n both.1 i small)
  where
    by_place : (t : Bool) → eqb i n ≡ t → is_visible_byte (get_or alphabet n 0) ≡ true
        → (i < n → is_visible_byte (get_or alphabet i 0) ≡ true) → is_visible_byte (get_or alphabet i 0) ≡ true
    by_place true e here rest = ap (λ k. is_visible_byte (get_or alphabet k 0)) (eqb-true i n e) ∙ here
    by_place false e here rest = let apart = eqb-false i n e in rest (omega (arith, below, apart))

symbol_shows : (i : ℕ) → i < 64 → is_visible_byte (get_or alphabet i 0) ≡ true
symbol_shows i below = shows_below 64 refl i below

small : (b : ℕ) → is_visible_byte b ≡ true → b < 128
small b e = grind (arith, nat_tests)

with_symbol : (i : ℕ) (rest : Bytes) → i < 64 → Shows rest → Shows (get_or alphabet i 0 ∷ rest)
with_symbol i rest below e = and_from (is_visible_byte (get_or alphabet i 0)) (list_all is_visible_byte rest) (symbol_shows i below) e

high : (a : ℕ) → a < 128 → a / 4 < 64
high a e = omega (arith, e)

middle : (a b : ℕ) → b < 128 → a % 4 * 16 + b / 16 < 64
middle a b e = omega (arith, e)

last_one : (a : ℕ) → a % 4 * 16 < 64
last_one a = omega arith

lower : (b c : ℕ) → c < 128 → b % 16 * 4 + c / 64 < 64
lower b c e = omega (arith, e)

last_two : (b : ℕ) → b % 16 * 4 < 64
last_two b = omega arith

low : (c : ℕ) → c % 64 < 64
low c = omega arith

symbols_show : (m : Bytes) → Shows m → Shows (encode_symbols alphabet m)
unfolding encode_symbols
symbols_show [] e = refl
symbols_show (a ∷ []) e =
    let a_small = small a (and_parts (is_visible_byte a) true e).0 in
    with_symbol (a / 4) (get_or alphabet (a % 4 * 16) 0 ∷ []) (high a a_small) (with_symbol (a % 4 * 16) [] (last_one a) refl)
symbols_show (a ∷ b ∷ []) e =
    let one = and_parts (is_visible_byte a) (list_all is_visible_byte (b ∷ [])) e in
    let a_small = small a one.0 in
    let b_small = small b (and_parts (is_visible_byte b) true one.1).0 in
    with_symbol (a / 4) (get_or alphabet (a % 4 * 16 + b / 16) 0 ∷ get_or alphabet (b % 16 * 4) 0 ∷ []) (high a a_small)
    (with_symbol (a % 4 * 16 + b / 16) (get_or alphabet (b % 16 * 4) 0 ∷ []) (middle a b b_small) (with_symbol (b % 16 * 4) [] (last_two b) refl))
symbols_show (a ∷ b ∷ c ∷ rest) e =
    let one = and_parts (is_visible_byte a) (list_all is_visible_byte (b ∷ c ∷ rest)) e in
    let two = and_parts (is_visible_byte b) (list_all is_visible_byte (c ∷ rest)) one.1 in
    let three = and_parts (is_visible_byte c) (list_all is_visible_byte rest) two.1 in
    let more = encode_symbols alphabet rest in
    with_symbol (a / 4) (get_or alphabet (a % 4 * 16 + b / 16) 0 ∷ get_or alphabet (b % 16 * 4 + c / 64) 0 ∷ get_or alphabet (c % 64) 0 ∷ more) (high a (small a one.0))
    (with_symbol (a % 4 * 16 + b / 16) (get_or alphabet (b % 16 * 4 + c / 64) 0 ∷ get_or alphabet (c % 64) 0 ∷ more) (middle a b (small b two.0))
    (with_symbol (b % 16 * 4 + c / 64) (get_or alphabet (c % 64) 0 ∷ more) (lower b c (small c three.0))
    (with_symbol (c % 64) more (low c) (symbols_show rest three.1))))

pads_show : (n : ℕ) → Shows (replicate n 61)
pads_show zero = refl
pads_show (suc n) = pads_show n

code_shows : (value : Bytes) → Shows value → Shows (encode_of standard value)
code_shows value e =
    list_all-append is_visible_byte (encode_symbols alphabet value) (replicate (padding_len (length value)) 61)
    ∙ and_from (list_all is_visible_byte (encode_symbols alphabet value)) (list_all is_visible_byte (replicate (padding_len (length value)) 61))
    (symbols_show value e) (pads_show (padding_len (length value)))

-- ---- a line

ascii : (text : Bytes) → Shows text → IsAscii text
ascii [] e i = omega arith
ascii (b ∷ bs) e zero = small b (and_parts (is_visible_byte b) (list_all is_visible_byte bs) e).0
ascii (b ∷ bs) e (suc i) = ascii bs (and_parts (is_visible_byte b) (list_all is_visible_byte bs) e).1 i

bytes_below : (text : Bytes) → Shows text → IsBytes text
bytes_below text e i = omega (arith, ascii text e i)

utf8 : (text : Bytes) → Shows text → is_utf8 text ≡ true
utf8 text e = is_utf8-from_IsUtf8 text (IsUtf8-from_ascii text (ascii text e))

neither : (x y : Bool) → (x || y) ≡ false → (x ≡ false) × (y ≡ false)
neither true y e = absurd (false≢true (sym e))
neither false y e = (refl, e)

plain_so : (value : Bytes) → Shows value → is_coded value ≡ false → is_plain value ≡ true
plain_so value e other =
    let both = neither (begins_with colon value) (begins_with less_than value) other in
    and_from (not (begins_with colon value) && not (begins_with less_than value)) (list_all is_plain_byte value)
    (and_from (not (begins_with colon value)) (not (begins_with less_than value)) (ap not both.0) (ap not both.1)) (shows_plain value e)

spaced : (text : Bytes) → Shows text → IsSpaced (space ∷ text) text
spaced text e = record { spaces = space ∷ []; each = refl; first = no_space text e; parts = refl }

line_by : (line : Line) (attribute : Attribute) → IsWritable attribute → (t : Bool) → is_coded attribute.value ≡ t
    → line.bytes ≡ attribute.name ++ cond t (codes ":: " ++ encode_of standard attribute.value) (codes ": " ++ attribute.value) → IsAttribute line attribute
line_by line attribute may true coded is =
    let code = encode_of standard attribute.value in
    record {
      rest = colon ∷ space ∷ code;
      named = record { right = may.name; parts = is };
      value = inr (record {
        coded = space ∷ code;
        code = code;
        is_coded = refl;
        spaced = spaced code (code_shows attribute.value may.value);
        decoded = decode_of-encode_of standard attribute.value refl (bytes_below attribute.value may.value);
        utf8 = utf8 attribute.value may.value;
      });
    }
line_by line attribute may false plain is = record {
  rest = space ∷ attribute.value;
  named = record { right = may.name; parts = is };
  value = inl (spaced attribute.value may.value, plain_so attribute.value may.value plain);
}

-- What is written of an attribute is read as it.
pub attribute_again : (line : Line) (attribute : Attribute) → IsWritable attribute → line.bytes ≡ line_said attribute → attribute_of line ≡ Ok attribute
attribute_again line attribute may is =
    ((attribute_told line).value attribute).1 (line_by line attribute may (is_coded attribute.value) refl is)

name_plain : (b : ℕ) → is_name_byte b ≡ true → is_plain_byte b ≡ true
name_plain b e = grind (arith, nat_tests)

first_plain : (b : ℕ) → is_ascii_alphanumeric b ≡ true → (is_plain_byte b ≡ true) × (eqb b space ≡ false) × (eqb b hash ≡ false)
first_plain b e = (grind (arith, nat_tests), grind (arith, nat_tests), grind (arith, nat_tests))

value_plain : (value : Bytes) → Shows value → (t : Bool) → list_all is_plain_byte (cond t (codes ":: " ++ encode_of standard value) (codes ": " ++ value)) ≡ true
value_plain value e true = shows_plain (encode_of standard value) (code_shows value e)
value_plain value e false = shows_plain value e

whole_by : (name value : Bytes) → is_name name ≡ true → Shows value → IsWhole (name ++ value_said value)
whole_by [] value named shows = absurd (false≢true named)
whole_by (b ∷ bs) value named shows =
    let both = and_parts (is_ascii_alphanumeric b) (list_all is_name_byte bs) named in
    let first = first_plain b both.0 in
    record {
      plain =
          and_from (is_plain_byte b) (list_all is_plain_byte (bs ++ value_said value)) first.0
          (list_all-append is_plain_byte bs (value_said value)
          ∙ and_from (list_all is_plain_byte bs) (list_all is_plain_byte (value_said value)) (all_more is_name_byte is_plain_byte name_plain bs both.1)
          (value_plain value shows (is_coded value)));
      own = first.1;
      said = first.2;
    }

-- Its line may stand in a text.
pub line_whole : (attribute : Attribute) → IsWritable attribute → IsWhole (line_said attribute)
line_whole attribute may = whole_by attribute.name attribute.value may.name may.value
