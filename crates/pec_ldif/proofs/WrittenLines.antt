-- Lines that are written, each with a line feed, are read as they are, where none holds an end of a line and none begins
-- as a comment or as one that goes on.
use Rattle.std.proofs.Common.{◌≡◌, ℕ, ◌+◌, ◌-◌, Bool, true, false, not, ◌&&◌, cond, eqb, List, [], ◌∷◌, ◌++◌, length, take, get_or, map, refl, sym, ◌∙◌, ap, arith, append_assoc, length-append, eqb-true}
use Rattle.std.proofs.Math.Seq.{take-append_seam}
use Rattle.std.proofs.lemmas.Bool.{and_parts, false≢true}
use Rattle.std.specs.List.{AllByRecursion, filter, flat_map, list_all, onto_first}
use Rattle.pec_types.specs.Bytes.{Bytes, carriage_return, line_feed, space}
use Rattle.pec_ldif.specs.Attributes.{is_plain_byte}
use Rattle.pec_ldif.specs.Lines.{Line, begins_with, content_of, ends_with, hash, in_front, is_empty, is_said, joined, lines_of, placed, raw_lines, unfolded, without_last, without_return}

-- the line with its end
abbrev pub ended : Bytes → Bytes
ended line = line ++ line_feed ∷ []

-- the line may stand in a text
pub record IsWhole (line : Bytes) : Type 0 where
  pub plain : list_all is_plain_byte line ≡ true
  pub own : begins_with space line ≡ false
  pub said : begins_with hash line ≡ false

-- ---- its end

test_no : (b mark : ℕ) (test : ℕ → Bool) (t : Bool) → eqb b mark ≡ t → test b ≡ true → test mark ≡ false → t ≡ false
test_no b mark test true e is not = absurd (false≢true (sym not ∙ (sym (ap test (eqb-true b mark e)) ∙ is)))
test_no b mark test false e is not = refl

raw_ended : (line more : Bytes) → list_all is_plain_byte line ≡ true → raw_lines (line ++ line_feed ∷ more) ≡ ended line ∷ raw_lines more
raw_ended [] more plain = refl
raw_ended (b ∷ bs) more plain =
    let both = and_parts (is_plain_byte b) (list_all is_plain_byte bs) plain in
    let other = test_no b line_feed is_plain_byte (eqb b line_feed) refl both.0 refl in
    ap (λ t. cond t ((b ∷ []) ∷ raw_lines (bs ++ line_feed ∷ more)) (onto_first b (raw_lines (bs ++ line_feed ∷ more)))) other
    ∙ ap (onto_first b) (raw_ended bs more both.1)

last_is : (c : ℕ) (cs : Bytes) (b : ℕ) → get_or (c ∷ (cs ++ b ∷ [])) (length (cs ++ b ∷ [])) 0 ≡ b
last_is c [] b = refl
last_is c (d ∷ ds) b = last_is d ds b

ends_so : (line : Bytes) → ends_with line_feed (ended line) ≡ true
ends_so [] = refl
ends_so (c ∷ cs) = ap (λ x. eqb x line_feed) (last_is c cs line_feed)

front_so : (line : Bytes) → without_last (ended line) ≡ line
front_so line = ap (λ n. take n (ended line)) (short line) ∙ take-append_seam line (line_feed ∷ [])
  where
    short : (xs : Bytes) → length (ended xs) - 1 ≡ length xs
    short xs = omega (arith, length-append xs (line_feed ∷ []))

plain_last : (c : ℕ) (cs : Bytes) → list_all is_plain_byte (c ∷ cs) ≡ true → is_plain_byte (get_or (c ∷ cs) (length cs) 0) ≡ true
plain_last c [] plain = (and_parts (is_plain_byte c) true plain).0
plain_last c (d ∷ ds) plain = plain_last d ds (and_parts (is_plain_byte c) (list_all is_plain_byte (d ∷ ds)) plain).1

no_return : (line : Bytes) → list_all is_plain_byte line ≡ true → ends_with carriage_return line ≡ false
no_return [] plain = refl
no_return (c ∷ cs) plain =
    let last = get_or (c ∷ cs) (length cs) 0 in
    test_no last carriage_return is_plain_byte (eqb last carriage_return) refl (plain_last c cs plain) refl

content_so : (line : Bytes) → list_all is_plain_byte line ≡ true → content_of (ended line) ≡ line
unfolding content_of
content_so line plain =
    ap (λ t. cond t (without_return (without_last (ended line))) (ended line)) (ends_so line)
    ∙ ap without_return (front_so line)
    ∙ ap (λ t. cond t (without_last line) line) (no_return line plain)

-- ---- all lines

-- lines by their places, of which this is the first
abbrev pub placed_lines : ℕ → List Bytes → List Line
placed_lines at [] = []
placed_lines at (line ∷ lines) = record { place = at; bytes = line } ∷ placed_lines (at + length (ended line)) lines

abbrev pub AreWhole : List Bytes → Type 0
AreWhole lines = AllByRecursion IsWhole lines

placed_so : (at : ℕ) (lines : List Bytes) → AreWhole lines → placed at (raw_lines (flat_map ended lines)) ≡ placed_lines at lines
placed_so at [] whole = refl
placed_so at (line ∷ lines) whole =
    ap (λ text. placed at (raw_lines text)) (append_assoc line (line_feed ∷ []) (flat_map ended lines))
    ∙ ap (placed at) (raw_ended line (flat_map ended lines) whole.0.plain)
    ∙ ap (λ bytes. record { place = at; bytes = bytes } ∷ placed (at + length (ended line)) (raw_lines (flat_map ended lines))) (content_so line whole.0.plain)
    ∙ ap (λ rest. record { place = at; bytes = line } ∷ rest) (placed_so (at + length (ended line)) lines whole.1)

stays : (x : Bool) (line next : Line) (lines : List Line) (t : Bool) → t ≡ false → cond (x && t) (joined line next ∷ lines) (line ∷ next ∷ lines) ≡ line ∷ next ∷ lines
stays true line next lines t e = ap (λ u. cond u (joined line next ∷ lines) (line ∷ next ∷ lines)) e
stays false line next lines t e = refl

unfolded_so : (at : ℕ) (lines : List Bytes) → AreWhole lines → unfolded (placed_lines at lines) ≡ placed_lines at lines
unfolded_so at [] whole = refl
unfolded_so at (line ∷ lines) whole =
    ap (in_front (record { place = at; bytes = line })) (unfolded_so (at + length (ended line)) lines whole.1)
    ∙ in_front_so (record { place = at; bytes = line }) (at + length (ended line)) lines whole.1
  where
    in_front_so : (first : Line) (at : ℕ) (lines : List Bytes) → AreWhole lines → in_front first (placed_lines at lines) ≡ first ∷ placed_lines at lines
    in_front_so first at [] whole = refl
    in_front_so first at (next ∷ rest) whole =
        stays (not (is_empty first.bytes)) first (record { place = at; bytes = next }) (placed_lines (at + length (ended next)) rest) (begins_with space next) whole.0.own

said_so : (at : ℕ) (lines : List Bytes) → AreWhole lines → filter is_said (placed_lines at lines) ≡ placed_lines at lines
said_so at [] whole = refl
said_so at (line ∷ lines) whole =
    let one : Line = record { place = at; bytes = line } in
    ap (λ t. cond (not t) (one ∷ filter is_said (placed_lines (at + length (ended line)) lines)) (filter is_said (placed_lines (at + length (ended line)) lines))) whole.0.said
    ∙ ap (λ rest. one ∷ rest) (said_so (at + length (ended line)) lines whole.1)

-- The lines of the text are the lines that were written.
pub lines_again : (lines : List Bytes) → AreWhole lines → lines_of (flat_map ended lines) ≡ placed_lines 0 lines
unfolding lines_of
lines_again lines whole =
    ap (λ ls. filter is_said (unfolded ls)) (placed_so 0 lines whole) ∙ ap (filter is_said) (unfolded_so 0 lines whole) ∙ said_so 0 lines whole

pub their_bytes : (at : ℕ) (lines : List Bytes) → map (λ (line : Line). line.bytes) (placed_lines at lines) ≡ lines
their_bytes at [] = refl
their_bytes at (line ∷ lines) = ap (λ rest. line ∷ rest) (their_bytes (at + length (ended line)) lines)
