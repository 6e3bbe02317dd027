-- The lines of a text, where its first line feed is known and where none is there.
use Rattle.std.proofs.Common.{◌≡◌, ℕ, ◌+◌, ◌-◌, ◌<◌, ◌≤◌, ◌==◌, ◌∙◌, List, [], ◌∷◌, ◌++◌, Bool, true, false, not, cond, length, take, drop, Some, None, refl, ap, sym, arith, eqb-true}
use Rattle.std.proofs.lemmas.Bool.{and_parts, and_from, not-true}
use Rattle.std.specs.List.{flat_map, list_all, position}
use Rattle.std.proofs.Math.Seq.{take-append_seam, drop-append-add, drop-drop, get_or-append_seam}
use Rattle.std.proofs.lemmas.List.{append_assoc, drop_at, length-append, length-take-le}
use Rattle.pec_heads.specs.Bytes.{FirstOf}
use Rattle.pec_heads.specs.Heads.{NamedValue, IsHead}
use Rattle.pec_heads.specs.Lines.{is_feed, AllHaveNoFeed, HasNoFeed, IsLines, ended, whole_lines, last_piece, onto_line, content_of, size}
use Rattle.pec_heads.proofs.Places.{first_of, none_of}

pub next_line : (line more : List ℕ) → HasNoFeed line → whole_lines (line ++ 10 ∷ more) ≡ line ∷ whole_lines more
next_line [] more none = refl
next_line (b ∷ line) more none =
    let h = and_parts (not (is_feed b)) (list_all (λ x. not (is_feed x)) line) none
    in rw (not-true (is_feed b) h.0) (ap (onto_line b) (next_line line more h.1))

pub no_line : (piece : List ℕ) → HasNoFeed piece → whole_lines piece ≡ []
no_line [] none = refl
no_line (b ∷ piece) none =
    let h = and_parts (not (is_feed b)) (list_all (λ x. not (is_feed x)) piece) none
    in rw (not-true (is_feed b) h.0) (ap (onto_line b) (no_line piece h.1))

feed_is : (b : ℕ) → is_feed b ≡ true → b ≡ 10
feed_is b e = eqb-true b 10 e

after_feed : (b : ℕ) (bs : List ℕ) (ih : IsLines bs (whole_lines bs)) → is_feed b ≡ true → IsLines (b ∷ bs) ([] ∷ whole_lines bs)
after_feed b bs ih passes = record {
  last = ih.last;
  text_is = rw (feed_is b passes) (ap (λ xs. 10 ∷ xs) ih.text_is);
  lines_have_none = (refl, ih.lines_have_none);
  last_has_none = ih.last_has_none;
}

onto_first_line : (b : ℕ) (bs : List ℕ) (lines : List (List ℕ)) → is_feed b ≡ false → IsLines bs lines → IsLines (b ∷ bs) (onto_line b lines)
onto_first_line b bs [] fails h = record {
  last = b ∷ h.last;
  text_is = ap (λ xs. b ∷ xs) h.text_is;
  lines_have_none = tt;
  last_has_none = and_from _ _ (ap not fails) h.last_has_none;
}
onto_first_line b bs (line ∷ lines) fails h = record {
  last = h.last;
  text_is = ap (λ xs. b ∷ xs) h.text_is;
  lines_have_none = (and_from _ _ (ap not fails) h.lines_have_none.0, h.lines_have_none.1);
  last_has_none = h.last_has_none;
}

lines_step : (b : ℕ) (bs : List ℕ) (t : Bool) → is_feed b ≡ t → IsLines bs (whole_lines bs) → IsLines (b ∷ bs) (cond t ([] ∷ whole_lines bs) (onto_line b (whole_lines bs)))
lines_step b bs true passes ih = after_feed b bs ih passes
lines_step b bs false fails ih = onto_first_line b bs (whole_lines bs) fails ih

pub lines_are : (text : List ℕ) → IsLines text (whole_lines text)
lines_are [] = record { last = []; text_is = refl; lines_have_none = tt; last_has_none = refl }
lines_are (b ∷ bs) = lines_step b bs (is_feed b) refl (lines_are bs)

drop_behind : (front : List ℕ) (b : ℕ) (back : List ℕ) → drop (length front + 1) (front ++ b ∷ back) ≡ back
drop_behind front b back = (drop-append-add front (b ∷ back) 1)

lines_cut : (text front : List ℕ) (k : ℕ) → FirstOf is_feed text front → k ≡ length front → whole_lines text ≡ take k text ∷ whole_lines (drop (k + 1) text)
lines_cut text front k f e =
    rw (e, f.parts, feed_is f.byte f.passes, take-append_seam, drop_behind front 10 f.back) (next_line front f.back f.before)

-- where `position` finds the first line feed, the text is cut there
pub lines_at : (text : List ℕ) (k : ℕ) → position is_feed text ≡ Some k → whole_lines text ≡ take k text ∷ whole_lines (drop (k + 1) text)
lines_at text k e = let f = first_of is_feed text k e in lines_cut text f.0 k f.1.0 f.1.1

pub lines_none : (text : List ℕ) → position is_feed text ≡ None → whole_lines text ≡ []
lines_none text e = no_line text (none_of is_feed text e)

-- the last piece, where there is no line feed, and behind the first one
pub piece_none : (text : List ℕ) → position is_feed text ≡ None → last_piece text ≡ text
unfolding last_piece
piece_none text e = rw (lines_none text e) refl

pub piece_at : (text : List ℕ) (k : ℕ) → position is_feed text ≡ Some k → k < length text → last_piece text ≡ last_piece (drop (k + 1) text)
unfolding last_piece
piece_at text k e below =
    rw (lines_at text k e, length-take-le k text (omega (arith, below))) (sym (drop-drop (size (whole_lines (drop (k + 1) text))) (k + 1) text))

last_place : (n : ℕ) → n + 1 - 1 ≡ n
last_place n = omega arith

pub content_again : (line : List ℕ) → content_of (line ++ 13 ∷ []) ≡ line
unfolding content_of
content_again line = rw (length-append line (13 ∷ []), last_place (length line), get_or-append_seam line 13 [] 0, take-append_seam) refl

-- the first bytes, and the last one
split_last : (b : ℕ) (bs : List ℕ) → (front : List ℕ) × (last : ℕ) × (b ∷ bs ≡ front ++ last ∷ [])
split_last b [] = ([], b, refl)
split_last b (c ∷ bs) = let s = split_last c bs in (b ∷ s.0, s.1, ap (λ xs. b ∷ xs) s.2)

own_last : (front : List ℕ) (b : ℕ) (t : Bool) → (b == 13) ≡ t → (b ≡ 13 → ⊥) → cond t front (front ++ b ∷ []) ≡ front ++ b ∷ []
own_last front b true e never = absurd (never (eqb-true b 13 e))
own_last front b false e never = refl

content_kept : (front : List ℕ) (b : ℕ) → (b ≡ 13 → ⊥) → content_of (front ++ b ∷ []) ≡ front ++ b ∷ []
unfolding content_of
content_kept front b never =
    rw (length-append front (b ∷ []), last_place (length front), get_or-append_seam front b [] 0, take-append_seam) (own_last front b (b == 13) refl never)

content_by : (line front : List ℕ) (b : ℕ) → line ≡ front ++ b ∷ [] → (b ≡ 13 → ⊥) → content_of line ≡ line
content_by line front b e never = ap content_of e ∙ content_kept front b never ∙ sym e

-- a line that doesn't end in CR
pub own_content : (line : List ℕ) → ((front : List ℕ) → line ≡ front ++ 13 ∷ [] → ⊥) → content_of line ≡ line
unfolding content_of
own_content [] never = refl
own_content (b ∷ bs) never =
    let s = split_last b bs
    in content_by (b ∷ bs) s.0 s.1 s.2 (λ e. never s.0 (s.2 ∙ ap (λ x. s.0 ++ x ∷ []) e))

-- ---- several lines

pub lines_then : (lines : List (List ℕ)) (text : List ℕ) → AllHaveNoFeed lines → whole_lines (flat_map ended lines ++ text) ≡ lines ++ whole_lines text
lines_then [] text h = refl
lines_then (line ∷ lines) text h =
    ap whole_lines (append_assoc (ended line) (flat_map ended lines) text ∙ append_assoc line (10 ∷ []) (flat_map ended lines ++ text))
    ∙ next_line line (flat_map ended lines ++ text) h.0
    ∙ ap (λ ls. line ∷ ls) (lines_then lines text h.1)

no_return : (line : List ℕ) → HasNoFeed line → HasNoFeed (line ++ 13 ∷ [])
no_return [] h = refl
no_return (b ∷ line) h =
    let p = and_parts (not (is_feed b)) (list_all (λ x. not (is_feed x)) line) h
    in and_from (not (is_feed b)) (list_all (λ x. not (is_feed x)) (line ++ 13 ∷ [])) p.0 (no_return line p.1)

-- a line that ends in CRLF
pub returned_line : (line more : List ℕ) → HasNoFeed line → whole_lines (line ++ 13 ∷ 10 ∷ more) ≡ (line ++ 13 ∷ []) ∷ whole_lines more
returned_line line more h = ap whole_lines (sym (append_assoc line (13 ∷ []) (10 ∷ more))) ∙ next_line (line ++ 13 ∷ []) more (no_return line h)

-- ---- sizes

pub size_append : (one other : List (List ℕ)) → size (one ++ other) ≡ size one + size other
size_append [] other = omega arith
size_append (line ∷ one) other = omega (arith, size_append one other)

pub ended_size : (lines : List (List ℕ)) → length (flat_map ended lines) ≡ size lines
ended_size [] = refl
ended_size (line ∷ lines) = omega (arith, length-append (ended line) (flat_map ended lines), length-append line (10 ∷ []), ended_size lines)

last_is : (text : List ℕ) → (lines_are text).last ≡ last_piece text
unfolding last_piece
last_is text =
    let h = lines_are text
    in sym (drop_at (flat_map ended (whole_lines text)) h.last (size (whole_lines text)) (ended_size (whole_lines text))) ∙ ap (drop (size (whole_lines text))) (sym h.text_is)

-- the last piece is what stands behind the lines, and no line feed is in it
pub piece_behind : (text : List ℕ) → text ≡ flat_map ended (whole_lines text) ++ last_piece text
piece_behind text = (lines_are text).text_is ∙ ap (λ piece. flat_map ended (whole_lines text) ++ piece) (last_is text)

pub piece_plain : (text : List ℕ) → HasNoFeed (last_piece text)
piece_plain text = ap (λ piece. list_all (λ b. not (is_feed b)) piece) (sym (last_is text)) ∙ (lines_are text).last_has_none

pub text_size : (text : List ℕ) → size (whole_lines text) + length (last_piece text) ≡ length text
text_size text =
    omega (arith, ap length (piece_behind text), length-append (flat_map ended (whole_lines text)) (last_piece text), ended_size (whole_lines text))

pub head_within : (text : List ℕ) (fields : List NamedValue) (place : ℕ) → IsHead text fields place → place ≤ length text
head_within text fields place h =
    omega (arith, text_size text, ap size h.lines, size_append h.before (h.last ∷ h.after), h.place_is)
