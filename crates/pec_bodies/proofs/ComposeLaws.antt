-- Composed bodies: their lines, the places of their parts, and what reading them gives.
use Rattle.std.proofs.Common.{◌≡◌, ℕ, ◌+◌, ◌-◌, ◌<◌, ◌^◌, List, [], ◌∷◌, ◌++◌, map, Bool, true, false, not, length, take, drop, refl, ap, sym, ◌∙◌, arith, append_assoc, length-append, eqb, cond, get_or}
use Rattle.std.proofs.Math.Seq.{take-append_seam}
use Rattle.std.proofs.lemmas.Bool.{and_from, and_parts, or_parts}
use Rattle.std.proofs.lemmas.List.{append-nil, take-append-drop, drop_at}
use Rattle.std.proofs.lemmas.Slice.Eq.{bytes_eq-Decides}
use Rattle.std.specs.List.{flat_map, list_all, list_any}
use Rattle.pec_bodies.proofs.LineFacts.{Lines, Sizes}
use Rattle.pec_heads.specs.Lines.{HasNoFeed, content_of, ended, ended_line, is_feed, size, whole_lines, last_piece}
use Rattle.pec_bodies.proofs.NumberLaws.{digit_other, digits_pass}
use Rattle.pec_bodies.proofs.MarkLaws.{closing_again, delimiter_again, text_again}
use Rattle.pec_bodies.specs.Composing.{AllHaveHeads, IsComposed, IsReadAgain, all_lines, begins, boundary_number, delimited, boundary_taken, joined_parts, placed_from, wholes_of}
use Rattle.pec_bodies.specs.Marks.{dashed, mark_of}
use Rattle.pec_bodies.specs.Multiparts.{AllSections, AllText, AreParts, IsMarked, IsMultipart, ReadPart, Span, Section, bytes_in, inner_size, section_lines, part_span, spans_of}
use Rattle.pec_bodies.specs.declared.marks.Mark.TheVariants.{Closing, Text}

-- ---- lines

module _ (law : Lines) (sizes : Sizes) where
  -- the lines of a part behind its delimiter, where a line end follows
  abbrev pub part_lines : List ℕ → List (List ℕ)
  part_lines part = whole_lines part ++ (last_piece part ++ 13 ∷ []) ∷ []

  part_then : (part more : List ℕ) → whole_lines (part ++ 13 ∷ 10 ∷ more) ≡ part_lines part ++ whole_lines more
  part_then part more =
      ap (λ p. whole_lines (p ++ 13 ∷ 10 ∷ more)) (law.behind part)
      ∙ ap whole_lines (append_assoc (flat_map ended (whole_lines part)) (last_piece part) (13 ∷ 10 ∷ more))
      ∙ law.several (whole_lines part) (last_piece part ++ 13 ∷ 10 ∷ more) (law.lines_have_none part)
      ∙ ap (λ ls. whole_lines part ++ ls) (law.next_returned (last_piece part) more (law.piece part))
      ∙ sym (append_assoc (whole_lines part) ((last_piece part ++ 13 ∷ []) ∷ []) (whole_lines more))

  abbrev pub section : List ℕ → List ℕ → Section
  section boundary part = record { delimiter = dashed boundary ++ 13 ∷ []; lines = part_lines part }

  delimited_then : (boundary part more : List ℕ) → delimited boundary part ++ more ≡ dashed boundary ++ 13 ∷ 10 ∷ (part ++ 13 ∷ 10 ∷ more)
  delimited_then boundary part more =
      append_assoc (ended_line (dashed boundary)) (ended_line part) more
      ∙ append_assoc (dashed boundary) (13 ∷ 10 ∷ []) (ended_line part ++ more)
      ∙ ap (λ xs. dashed boundary ++ 13 ∷ 10 ∷ xs) (append_assoc part (13 ∷ 10 ∷ []) more)

  section_then : (boundary part more : List ℕ) → HasNoFeed (dashed boundary) → whole_lines (delimited boundary part ++ more) ≡ section_lines (section boundary part) ++ whole_lines more
  section_then boundary part more h =
      ap whole_lines (delimited_then boundary part more)
      ∙ law.next_returned (dashed boundary) (part ++ 13 ∷ 10 ∷ more) h
      ∙ ap (λ ls. (dashed boundary ++ 13 ∷ []) ∷ ls) (part_then part more)

  sections_then : (boundary : List ℕ) (parts : List (List ℕ)) (more : List ℕ) → HasNoFeed (dashed boundary)
      → whole_lines (flat_map (delimited boundary) parts ++ more) ≡ flat_map section_lines (map (section boundary) parts) ++ whole_lines more
  sections_then boundary [] more h = refl
  sections_then boundary (part ∷ parts) more h =
      ap whole_lines (append_assoc (delimited boundary part) (flat_map (delimited boundary) parts) more)
      ∙ section_then boundary part (flat_map (delimited boundary) parts ++ more) h
      ∙ ap (λ ls. section_lines (section boundary part) ++ ls) (sections_then boundary parts more h)
      ∙ sym (append_assoc (section_lines (section boundary part)) (flat_map section_lines (map (section boundary) parts)) (whole_lines more))

  -- ---- places

  inner_last : (lines : List (List ℕ)) (line : List ℕ) → inner_size (lines ++ line ∷ []) ≡ size lines + length (content_of line)
  inner_last [] line = omega arith
  inner_last (first ∷ []) line = omega arith
  inner_last (first ∷ next ∷ lines) line = omega (arith, inner_last (next ∷ lines) line)

  inner_part : (part : List ℕ) → inner_size (part_lines part) ≡ length part
  inner_part part = inner_last (whole_lines part) (last_piece part ++ 13 ∷ []) ∙ ap (λ l. size (whole_lines part) + length l) (law.returned (last_piece part)) ∙ sizes.text part

  section_size : (boundary part : List ℕ) → size (section_lines (section boundary part)) ≡ length (delimited boundary part)
  section_size boundary part =
      omega (
        arith,
        sizes.text part,
        sizes.several (whole_lines part) ((last_piece part ++ 13 ∷ []) ∷ []),
        length-append (last_piece part) (13 ∷ []),
        length-append (dashed boundary) (13 ∷ []),
        length-append (ended_line (dashed boundary)) (ended_line part),
        length-append (dashed boundary) (13 ∷ 10 ∷ []),
        length-append part (13 ∷ 10 ∷ []),
      )

  middle : (front part back : List ℕ) (place : Span) → place.start ≡ length front → place.stop ≡ length front + length part → bytes_in (front ++ (part ++ back)) place ≡ part
  middle front part back place s e =
      ap (λ k. take k (drop place.start (front ++ (part ++ back)))) (omega (arith, s, e))
      ∙ ap (take (length part)) (drop_at front (part ++ back) place.start (sym s))
      ∙ take-append_seam part back

  part_there : (boundary front part more : List ℕ) → bytes_in (front ++ (delimited boundary part ++ more)) (part_span (length front) (section boundary part)) ≡ part
  part_there boundary front part more =
      ap (λ b. bytes_in (front ++ b) (part_span (length front) (section boundary part)))
      (delimited_then boundary part more ∙ sym (append_assoc (dashed boundary) (13 ∷ 10 ∷ []) (part ++ 13 ∷ 10 ∷ more)))
      ∙ ap (λ b. bytes_in b (part_span (length front) (section boundary part))) (sym (append_assoc front (ended_line (dashed boundary)) (part ++ 13 ∷ 10 ∷ more)))
      ∙ middle (front ++ ended_line (dashed boundary)) part (13 ∷ 10 ∷ more) (part_span (length front) (section boundary part))
      (omega (arith, length-append front (ended_line (dashed boundary)), length-append (dashed boundary) (13 ∷ 10 ∷ []), length-append (dashed boundary) (13 ∷ [])))
      (omega (arith, inner_part part, length-append front (ended_line (dashed boundary)), length-append (dashed boundary) (13 ∷ 10 ∷ []), length-append (dashed boundary) (13 ∷ [])))

  parts_there : (boundary body front : List ℕ) (place at : ℕ) (parts : List ReadPart) (more : List ℕ) → body ≡ front ++ (flat_map (delimited boundary) (wholes_of parts) ++ more) → place ≡ length front
      → at ≡ place → AllHaveHeads parts → AreParts body (spans_of place (map (section boundary) (wholes_of parts))) (placed_from boundary at parts)
  parts_there boundary body front place at [] more e p q h = tt
  parts_there boundary body front place at (part ∷ parts) more e p q h =
      let behind = flat_map (delimited boundary) (wholes_of parts) ++ more
      in let b : body ≡ front ++ (delimited boundary part.whole ++ behind) = e ∙ ap (λ xs. front ++ xs) (append_assoc (delimited boundary part.whole) (flat_map (delimited boundary) (wholes_of parts)) more)
      in let w : bytes_in body (part_span place (section boundary part.whole)) ≡ part.whole =
      ap (λ k. bytes_in body (part_span k (section boundary part.whole))) p
      ∙ ap (λ xs. bytes_in xs (part_span (length front) (section boundary part.whole))) b
      ∙ part_there boundary front part.whole behind
      in (
        record {
          start_is = omega (arith, q, length-append (dashed boundary) (13 ∷ 10 ∷ []), length-append (dashed boundary) (13 ∷ []));
          whole_is = sym w;
          headed = record { place = h.0.place; head_is = h.0.head_is; body_is = h.0.body_is };
        },
        parts_there boundary body (front ++ delimited boundary part.whole) (place + size (section_lines (section boundary part.whole))) (at + length (delimited boundary part.whole)) parts more
            (b ∙ sym (append_assoc front (delimited boundary part.whole) behind))
            (omega (arith, p, section_size boundary part.whole, length-append front (delimited boundary part.whole)))
            (omega (arith, q, section_size boundary part.whole))
            h.1,
      )

  -- ---- lines that are no delimiters

  begins_so : (front rest back : List ℕ) → begins front ((front ++ rest) ++ back) ≡ true
  begins_so front rest back =
      (bytes_eq-Decides front (take (length front) ((front ++ rest) ++ back))).1 (sym (ap (take (length front)) (append_assoc front rest back) ∙ take-append_seam front (rest ++ back)))

  true_not_false : (t : Bool) → t ≡ true → t ≡ false → ⊥
  true_not_false t e f = absurd cc

  text_line : (boundary line content back : List ℕ) → begins (dashed boundary) line ≡ false → line ≡ content ++ back → mark_of boundary content ≡ Text
  text_line boundary line content back h e =
      text_again boundary content (λ rest c. true_not_false (begins (dashed boundary) line) (ap (begins (dashed boundary)) (e ∙ ap (λ xs. xs ++ back) c) ∙ begins_so (dashed boundary) rest back) h)

  content_front : (line : List ℕ) → (back : List ℕ) × (line ≡ content_of line ++ back)
  unfolding content_of
  content_front line = front_by line (length line - 1) (eqb (get_or line (length line - 1) 0) 13)
    where
      front_by : (line : List ℕ) (k : ℕ) (t : Bool) → (back : List ℕ) × (line ≡ cond t (take k line) line ++ back)
      front_by line k true = (drop k line, sym (take-append-drop k line))
      front_by line k false = ([], sym (append-nil line))

  lines_text : (boundary last : List ℕ) (lines : List (List ℕ)) → list_any (begins (dashed boundary)) (lines ++ last ∷ []) ≡ false → AllText boundary (lines ++ (last ++ 13 ∷ []) ∷ [])
  lines_text boundary last [] h =
      let p = or_parts (begins (dashed boundary) last) false h
      in (ap (mark_of boundary) (law.returned last) ∙ text_line boundary last last [] p.0 (sym (append-nil last)), tt)
  lines_text boundary last (line ∷ more) h =
      let p = or_parts (begins (dashed boundary) line) (list_any (begins (dashed boundary)) (more ++ last ∷ [])) h
      in let f = content_front line
      in (text_line boundary line (content_of line) f.0 p.0 f.1, lines_text boundary last more p.1)

  sections_are : (boundary : List ℕ) (parts : List (List ℕ)) → boundary_taken boundary parts ≡ false → AllSections boundary (map (section boundary) parts)
  sections_are boundary [] h = tt
  sections_are boundary (part ∷ parts) h =
      let p = or_parts (list_any (begins (dashed boundary)) (all_lines part)) (boundary_taken boundary parts) h
      in (
        ap (mark_of boundary) (law.returned (dashed boundary)) ∙ delimiter_again boundary (dashed boundary) record { blanks = []; parts = sym (append-nil (dashed boundary)); are_blanks = refl },
        lines_text boundary (last_piece part) (whole_lines part) p.0,
        sections_are boundary parts p.1,
      )

  -- ---- the boundary

  boundary_no_feed : (n : ℕ) → n < 2 ^ 64 → HasNoFeed (dashed (boundary_number n))
  unfolding boundary_number
  boundary_no_feed n h = digits_pass (λ c. not (is_feed c)) (λ c over under. digit_other 10 c (λ e. omega (arith, over, e))) n h

  -- ---- the law

  closing_line : (boundary : List ℕ) → IsMarked boundary Closing ((dashed boundary ++ 45 ∷ 45 ∷ []) ++ 13 ∷ [])
  closing_line boundary =
      ap (mark_of boundary) (law.returned (dashed boundary ++ 45 ∷ 45 ∷ [])) ∙ closing_again boundary (dashed boundary ++ 45 ∷ 45 ∷ []) record { blanks = []; parts = refl; are_blanks = refl }

  no_feed_then : (line : List ℕ) → HasNoFeed line → HasNoFeed (line ++ 45 ∷ 45 ∷ [])
  no_feed_then [] h = refl
  no_feed_then (b ∷ line) h =
      let p = and_parts (not (is_feed b)) (list_all (λ x. not (is_feed x)) line) h
      in and_from (not (is_feed b)) (list_all (λ x. not (is_feed x)) (line ++ 45 ∷ 45 ∷ [])) p.0 (no_feed_then line p.1)

  composed_is : (boundary body : List ℕ) (first : List ℕ) (others : List (List ℕ)) → HasNoFeed (dashed boundary) → boundary_taken boundary (first ∷ others) ≡ false
      → body ≡ joined_parts boundary (first ∷ others) → IsMultipart boundary body (spans_of 0 (map (section boundary) (first ∷ others)))
  composed_is boundary body first others h free e = record {
    before = [];
    first = section boundary first;
    others = map (section boundary) others;
    rest = ((dashed boundary ++ 45 ∷ 45 ∷ []) ++ 13 ∷ []) ∷ [];
    lines = ap whole_lines e
        ∙ sections_then boundary (first ∷ others) (ended_line (dashed boundary ++ 45 ∷ 45 ∷ [])) h
        ∙ ap (λ ls. flat_map section_lines (map (section boundary) (first ∷ others)) ++ ls) (law.next_returned (dashed boundary ++ 45 ∷ 45 ∷ []) [] (no_feed_then (dashed boundary) h));
    passed = tt;
    each = sections_are boundary (first ∷ others) free;
    closes = closing_line boundary;
    places_are = refl;
  }

  pub read_again : (parts : List ReadPart) (n : ℕ) (body : List ℕ) → 0 < length parts → AllHaveHeads parts → IsComposed (wholes_of parts) n body → IsReadAgain parts n body
  read_again [] n body some heads c = absurd (omega (arith, some))
  read_again (part ∷ parts) n body some heads c = λ head e. record {
    boundary = boundary_number n;
    places = spans_of 0 (map (section (boundary_number n)) (wholes_of (part ∷ parts)));
    boundary_is = e;
    multipart = composed_is (boundary_number n) body part.whole (wholes_of parts) (boundary_no_feed n c.number.fits) c.number.free c.body_is;
    parts_are = parts_there (boundary_number n) body [] 0 0 (part ∷ parts) (ended_line (dashed (boundary_number n) ++ 45 ∷ 45 ∷ [])) c.body_is refl refl heads;
  }
