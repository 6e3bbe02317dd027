-- What is written of a head is read again: its lines, its fields and the place behind it.
use Rattle.std.proofs.Common.{◌≡◌, ℕ, ◌+◌, ◌≤◌, ◌==◌, nat_le, nat_lt, List, [], ◌∷◌, ◌++◌, map, Bool, true, false, not, ◌&&◌, length, drop, Ok, refl, ap, sym, ◌∙◌, arith, append_assoc, length-append, cond}
use Rattle.std.proofs.Math.Seq.{drop-append-add}
use Rattle.std.proofs.lemmas.Bool.{and_from, and_parts, both_ways, leb-true, le-ltb, ne_eqb, not-true, not_from_false, or_from, or_parts}
use Rattle.std.proofs.lemmas.List.{append-nil, map-append}
use Rattle.std.proofs.lemmas.Grind.{flat_map-append}
use Rattle.std.proofs.lemmas.List.Folds.{flat_map-map, list_all-append}
use Rattle.std.specs.List.{AllByRecursion, concat, flat_map, list_all}
use Rattle.pec_types.specs.Text.{AllPrintable, is_unprintable}
use Rattle.pec_heads.specs.Bytes.{NonePass, trimmed}
use Rattle.pec_heads.specs.Heads.{FieldLines, NamedValue, AllFields, AllGoOn, IsHead, IsLine, is_control, is_name, is_name_byte, is_named, lines_of, unfolded, values_of}
use Rattle.pec_heads.specs.Lines.{HasNoFeed, content_of, ended_line, is_feed, size, whole_lines}
use Rattle.pec_heads.specs.WrittenHeads.{Written, AllStand, CanStand, field, field_lines, field_text, head_text, shown, spaced, with_head}
use Rattle.pec_heads.specs.declared.TheConstants.{LINE_LIMIT}
use Rattle.pec_heads.proofs.LineLemmas.{content_again, returned_line, size_append}
use Rattle.pec_heads.proofs.Places.{none_of}
use Rattle.pec_heads.proofs.ReadingLaws.{read_again}
use Rattle.pec_heads.specs.HeadReading.{read_of}

-- ---- lines

abbrev returned : List ℕ → List ℕ
returned line = line ++ 13 ∷ []

feed_is_control : (b : ℕ) → is_control b ≡ false → is_feed b ≡ false
feed_is_control b e = ne_eqb b 10 (λ q. both_ways (is_control b) e (rw q refl))

no_feed : (line : List ℕ) → NonePass is_control line → HasNoFeed line
no_feed [] h = refl
no_feed (b ∷ bs) h =
    let p = and_parts (not (is_control b)) (list_all (λ x. not (is_control x)) bs) h
    in and_from (not (is_feed b)) (list_all (λ x. not (is_feed x)) bs) (not_from_false (is_feed b) (feed_is_control b (not-true (is_control b) p.0))) (no_feed bs p.1)

lines_written : (lines : List (List ℕ)) (more : List ℕ) → AllByRecursion IsLine lines → whole_lines (flat_map ended_line lines ++ more) ≡ map returned lines ++ whole_lines more
lines_written [] more h = refl
lines_written (line ∷ lines) more h =
    ap whole_lines (append_assoc (ended_line line) (flat_map ended_line lines) more ∙ append_assoc line (13 ∷ 10 ∷ []) (flat_map ended_line lines ++ more))
    ∙ returned_line line (flat_map ended_line lines ++ more) (no_feed line h.0.plain)
    ∙ ap (λ ls. returned line ∷ ls) (lines_written lines more h.1)

fields_written : (fields : List Written) (more : List ℕ) → AllStand fields → whole_lines (head_text fields ++ more) ≡ map returned (flat_map field_lines fields) ++ whole_lines more
fields_written [] more h = refl
fields_written (w ∷ fields) more h =
    ap whole_lines (append_assoc (field_text w) (head_text fields) more)
    ∙ lines_written (field_lines w) (head_text fields ++ more) h.0.lines
    ∙ ap (λ ls. map returned (field_lines w) ++ ls) (fields_written fields more h.1)
    ∙ sym (append_assoc (map returned (field_lines w)) (map returned (flat_map field_lines fields)) (whole_lines more))
    ∙ ap (λ ls. ls ++ whole_lines more) (sym (map-append returned (field_lines w) (flat_map field_lines fields)))

contents_again : (lines : List (List ℕ)) → map content_of (map returned lines) ≡ lines
contents_again [] = refl
contents_again (line ∷ lines) = ap (λ l. l ∷ map content_of (map returned lines)) (content_again line) ∙ ap (λ ls. line ∷ ls) (contents_again lines)

lines_size : (lines : List (List ℕ)) → size (map returned lines) ≡ length (flat_map ended_line lines)
lines_size [] = refl
lines_size (line ∷ lines) =
    omega (arith, lines_size lines, length-append line (13 ∷ []), length-append line (13 ∷ 10 ∷ []), length-append (ended_line line) (flat_map ended_line lines))

head_size : (fields : List Written) → size (map returned (flat_map field_lines fields)) ≡ length (head_text fields)
head_size [] = refl
head_size (w ∷ fields) =
    ap size (map-append returned (field_lines w) (flat_map field_lines fields))
    ∙ omega (
      arith,
      size_append (map returned (field_lines w)) (map returned (flat_map field_lines fields)),
      lines_size (field_lines w),
      head_size fields,
      length-append (field_text w) (head_text fields),
    )

-- ---- fields

abbrev tree_of : Written → FieldLines
tree_of w = record { name = w.name; rest = spaced w.first; more = map spaced w.more }

go_on : (lines : List (List ℕ)) → AllByRecursion IsLine (map spaced lines) → AllGoOn (map spaced lines)
go_on [] h = tt
go_on (line ∷ lines) h = (record { line = h.0; blank = refl }, go_on lines h.1)

trees_are : (fields : List Written) → AllStand fields → AllFields (map tree_of fields)
trees_are [] h = tt
trees_are (w ∷ fields) h = (record { name = h.0.name; first = h.0.lines.0; more = go_on w.more h.0.lines.1 }, trees_are fields h.1)

joined_lines : (lines : List (List ℕ)) → concat (map spaced lines) ≡ flat_map spaced lines
joined_lines [] = refl
joined_lines (line ∷ lines) = ap (λ xs. spaced line ++ xs) (joined_lines lines)

pub first_blank : (bytes : List ℕ) → trimmed (32 ∷ bytes) ≡ trimmed bytes
unfolding trimmed
first_blank bytes = refl

shown_tree : (w : Written) → shown w ≡ unfolded (tree_of w)
shown_tree w =
    ap (λ xs. record { name = w.name; value = trimmed (w.first ++ xs) }) (sym (joined_lines w.more))
    ∙ ap (λ v. record { name = w.name; value = v }) (sym (first_blank (w.first ++ concat (map spaced w.more))))

shown_trees : (fields : List Written) → map shown fields ≡ map unfolded (map tree_of fields)
shown_trees [] = refl
shown_trees (w ∷ fields) = ap (λ f. f ∷ map shown fields) (shown_tree w) ∙ ap (λ fs. unfolded (tree_of w) ∷ fs) (shown_trees fields)

-- ---- heads

pub written_head : (fields : List Written) (body : List ℕ) → AllStand fields → IsHead (with_head fields body) (map shown fields) (length (head_text fields) + 2)
written_head fields body h = record {
  trees = map tree_of fields;
  before = map returned (flat_map field_lines fields);
  last = 13 ∷ [];
  after = whole_lines body;
  each = trees_are fields h;
  lines = fields_written fields (13 ∷ 10 ∷ body) h;
  contents = contents_again (flat_map field_lines fields) ∙ sym (flat_map-map lines_of tree_of fields);
  empty = content_again [];
  fields_are = shown_trees fields;
  place_is = omega (arith, head_size fields);
}

pub written_read : (fields : List Written) (body : List ℕ) → AllStand fields → read_of (with_head fields body) ≡ Ok (map shown fields, length (head_text fields) + 2)
written_read fields body h = read_again (with_head fields body) (map shown fields) (length (head_text fields) + 2) (written_head fields body h)

pub body_behind : (fields : List Written) (body : List ℕ) → drop (length (head_text fields) + 2) (with_head fields body) ≡ body
body_behind fields body = drop-append-add (head_text fields) (13 ∷ 10 ∷ body) 2

pub next_field : (fields : List Written) (last : Written) → head_text (fields ++ last ∷ []) ≡ head_text fields ++ field_text last
next_field fields last = flat_map-append field_text fields (last ∷ []) ∙ ap (λ t. head_text fields ++ t) (append-nil (field_text last))

-- ---- fields of one line

plain_name_byte : (b : ℕ) → is_name_byte b ≡ true → is_control b ≡ false
plain_name_byte b e =
    let h = and_parts (nat_le 33 b && nat_le b 126) (not (b == 58)) e
    in let p = and_parts (nat_le 33 b) (nat_le b 126) h.0
    in let low : 33 ≤ b = leb-true 33 b p.0
    in let high : b ≤ 126 = leb-true b 126 p.1
    in or_from (nat_lt b 32 && not (b == 9)) (b == 127) (rw (le-ltb b 32 (omega (arith, low))) refl) (ne_eqb b 127 (λ q. omega (arith, q, high)))

name_plain : (name : List ℕ) → list_all is_name_byte name ≡ true → NonePass is_control name
name_plain [] e = refl
name_plain (b ∷ bs) e =
    let p = and_parts (is_name_byte b) (list_all is_name_byte bs) e
    in and_from (not (is_control b)) (list_all (λ x. not (is_control x)) bs) (not_from_false (is_control b) (plain_name_byte b p.0)) (name_plain bs p.1)

pub none_append : (p : ℕ → Bool) (xs ys : List ℕ) → NonePass p xs → NonePass p ys → NonePass p (xs ++ ys)
none_append p xs ys h k = list_all-append (λ b. not (p b)) xs ys ∙ and_from (list_all (λ b. not (p b)) xs) (list_all (λ b. not (p b)) ys) h k

-- a name, a colon, a space and bytes that aren't control bytes
pub first_plain : (name value : List ℕ) → is_name name ≡ true → NonePass is_control value → NonePass is_control (name ++ 58 ∷ spaced value)
unfolding is_name
first_plain name value n h = none_append is_control name (58 ∷ spaced value) (name_plain name (and_parts (not (length name == 0)) (list_all is_name_byte name) n).1) h

pub first_size : (name value : List ℕ) → length (name ++ 58 ∷ spaced value) ≡ length name + 2 + length value
first_size name value = omega (arith, length-append name (58 ∷ spaced value))

pub one_line_stands : (name value : List ℕ) → is_name name ≡ true → NonePass is_control value → length name + 2 + length value ≤ LINE_LIMIT → CanStand (field name value)
one_line_stands name value n h short = record {
  name = n;
  lines = (record { short = omega (arith, first_size name value, short); plain = first_plain name value n h }, tt);
}

pub one_line_shown : (name value : List ℕ) → shown (field name value) ≡ record { name = name; value = trimmed value }
one_line_shown name value = ap (λ v. record { name = name; value = trimmed v }) (append-nil value)

unprintable_control : (b : ℕ) → is_unprintable b ≡ false → is_control b ≡ false
unprintable_control b e =
    let p = or_parts (nat_lt b 32) (nat_lt 126 b) e
    in or_from (nat_lt b 32 && not (b == 9)) (b == 127) (rw p.0 refl) (ne_eqb b 127 (λ q. both_ways (nat_lt 126 b) p.1 (rw q refl)))

none_unprintable : (bytes : List ℕ) → NonePass is_unprintable bytes → NonePass is_control bytes
none_unprintable [] h = refl
none_unprintable (b ∷ bs) h =
    let p = and_parts (not (is_unprintable b)) (list_all (λ x. not (is_unprintable x)) bs) h
    in and_from (not (is_control b)) (list_all (λ x. not (is_control x)) bs) (not_from_false (is_control b) (unprintable_control b (not-true (is_unprintable b) p.0))) (none_unprintable bs p.1)

pub printable_plain : (bytes : List ℕ) → AllPrintable bytes → NonePass is_control bytes
printable_plain bytes h = none_unprintable bytes (none_of is_unprintable bytes h)

-- ---- look-ups

pub found_here : (name : List ℕ) (found : NamedValue) (fields : List NamedValue) → is_named name found ≡ true → values_of name (found ∷ fields) ≡ found.value ∷ values_of name fields
found_here name found fields e = rw e refl

pub found_elsewhere : (name : List ℕ) (other : NamedValue) (fields : List NamedValue) → is_named name other ≡ false → values_of name (other ∷ fields) ≡ values_of name fields
found_elsewhere name other fields e = rw e refl

either_value : (t : Bool) (value : List ℕ) (values others : List (List ℕ)) → cond t (value ∷ (values ++ others)) (values ++ others) ≡ cond t (value ∷ values) values ++ others
either_value true value values others = refl
either_value false value values others = refl

pub found_several : (name : List ℕ) (fields others : List NamedValue) → values_of name (fields ++ others) ≡ values_of name fields ++ values_of name others
found_several name [] others = refl
found_several name (f ∷ fields) others =
    ap (λ vs. cond (is_named name f) (f.value ∷ vs) vs) (found_several name fields others) ∙ either_value (is_named name f) f.value (values_of name fields) (values_of name others)
