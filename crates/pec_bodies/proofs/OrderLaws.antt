-- Parts stand one behind the other: the sections of a body do, and a part stands in its section.
use Rattle.std.proofs.Common.{◌≡◌, ℕ, Bool, true, false, cond, eqb, get_or, ◌+◌, ◌-◌, ◌≤◌, List, [], ◌∷◌, ◌++◌, length, take, drop, refl, ap, sym, ◌∙◌, arith, length-drop}
use Rattle.std.proofs.Math.Seq.{drop-drop}
use Rattle.std.proofs.lemmas.List.{length-take, length-take-le, take-append-drop}
use Rattle.std.specs.List.{flat_map}
use Rattle.pec_heads.specs.Heads.{NamedValue}
use Rattle.pec_heads.specs.Lines.{content_of, size, whole_lines}
use Rattle.pec_bodies.proofs.LineFacts.{Sizes}
use Rattle.pec_bodies.specs.Multiparts.{AreParts, IsPart, IsParts, Span, ReadPart, Section, StandInOrder, bytes_in, inner_size, section_lines, part_span, own_span, spans_of, with_parts}

-- a line is no shorter than its content
content_le : (line : List ℕ) → length (content_of line) ≤ length line
unfolding content_of
content_le line = by_end line (eqb (get_or line (length line - 1) 0) 13)
  where
    by_end : (line : List ℕ) (t : Bool) → length (cond t (take (length line - 1) line) line) ≤ length line
    by_end line true = omega (arith, length-take (length line - 1) line)
    by_end line false = omega arith

inner_le : (lines : List (List ℕ)) → inner_size lines ≤ size lines
inner_le [] = omega arith
inner_le (line ∷ []) = omega (arith, content_le line)
inner_le (line ∷ next ∷ lines) = omega (arith, inner_le (next ∷ lines))

bytes_length : (body : List ℕ) (place : Span) → place.start ≤ place.stop → place.stop ≤ length body → length (bytes_in body place) ≡ place.stop - place.start
bytes_length body place order within = length-take-le (place.stop - place.start) (drop place.start body) (omega (arith, order, within, length-drop place.start body))

-- a part is the bytes at its own place, which is the place that it has in its section
own_place : (body : List ℕ) (place : Span) (part : ReadPart) → place.start ≤ place.stop → place.stop ≤ length body → IsPart body place part
    → (part.start + length part.whole ≡ place.stop) × (part.whole ≡ bytes_in body (own_span part))
own_place body place part order within is =
    let long : length part.whole ≡ place.stop - place.start = ap length is.whole_is ∙ bytes_length body place order within
    in (
      omega (arith, is.start_is, long, order),
      is.whole_is
          ∙ ap (λ k. take k (drop place.start body)) (omega (arith, is.start_is, long))
          ∙ ap (λ k. take (part.start + length part.whole - part.start) (drop k body)) (sym is.start_is),
    )

in_order : Sizes → (body : List ℕ) (past place : ℕ) (sections : List Section) (parts : List ReadPart) → past ≤ place → place + size (flat_map section_lines sections) ≤ length body
    → AreParts body (spans_of place sections) parts → StandInOrder past body parts
in_order sizes body past place [] [] before within are = omega (arith, before, within)
in_order sizes body past place [] (part ∷ parts) before within are = absurd are
in_order sizes body past place (s ∷ sections) [] before within are = absurd are
in_order sizes body past place (s ∷ sections) (part ∷ parts) before within are =
    let inside : inner_size s.lines ≤ size s.lines = inner_le s.lines
    in let sum : size (flat_map section_lines (s ∷ sections)) ≡ size (section_lines s) + size (flat_map section_lines sections) = sizes.several (section_lines s) (flat_map section_lines sections)
    in let own = own_place body (part_span place s) part (omega arith) (omega (arith, inside, sum, within)) are.0
    in (
      omega (arith, before, are.0.start_is),
      (
        own.1,
        in_order sizes body (part.start + length part.whole) (place + size (section_lines s)) sections parts (omega (arith, own.0, inside)) (omega (arith, sum, within)) are.1,
      ),
    )

before_le : Sizes → (before lines rest : List (List ℕ)) (text : List ℕ) → whole_lines text ≡ before ++ (lines ++ rest) → size before + size lines ≤ length text
before_le sizes before lines rest text e = omega (arith, sizes.text text, ap size e, sizes.several before (lines ++ rest), sizes.several lines rest)

pub parts_in_order : Sizes → (head : List NamedValue) (body : List ℕ) (parts : List ReadPart) → IsParts head body parts → StandInOrder 0 body parts
parts_in_order sizes head body parts h =
    let m = h.multipart
    in in_order sizes body 0 (size m.before) (m.first ∷ m.others) parts (omega arith) (before_le sizes m.before (flat_map section_lines (m.first ∷ m.others)) m.rest body m.lines) (rw m.places_are at h.parts_are)

-- ---- other bytes in the place of parts

put_back : (bytes whole rest : List ℕ) → whole ≡ take (length whole) bytes → rest ≡ drop (length whole) bytes → whole ++ rest ≡ bytes
put_back bytes whole rest w r = ap (λ xs. xs ++ rest) w ∙ ap (λ xs. take (length whole) bytes ++ xs) r ∙ take-append-drop (length whole) bytes

unchanged_from : (past : ℕ) (body : List ℕ) (parts : List ReadPart) → StandInOrder past body parts → with_parts (λ part. part.whole) past body parts ≡ drop past body
unchanged_from past body [] h = refl
unchanged_from past body (part ∷ parts) h =
    let long : part.start + length part.whole - part.start ≡ length part.whole = omega arith
    in let whole : part.whole ≡ take (length part.whole) (drop part.start body) = h.1.0 ∙ ap (λ k. take k (drop part.start body)) long
    in let rest : with_parts (λ p. p.whole) (part.start + length part.whole) body parts ≡ drop (length part.whole) (drop part.start body) =
    unchanged_from (part.start + length part.whole) body parts h.1.1 ∙ sym (drop-drop (length part.whole) part.start body)
    in let between : part.start ≡ past + (part.start - past) = omega (arith, h.0)
    in ap (λ xs. take (part.start - past) (drop past body) ++ xs) (put_back (drop part.start body) part.whole (with_parts (λ p. p.whole) (part.start + length part.whole) body parts) whole rest)
    ∙ ap (λ k. take (part.start - past) (drop past body) ++ drop k body) between
    ∙ ap (λ xs. take (part.start - past) (drop past body) ++ xs) (sym (drop-drop (part.start - past) past body))
    ∙ take-append-drop (part.start - past) (drop past body)

pub unchanged : Sizes → (head : List NamedValue) (body : List ℕ) (parts : List ReadPart) → IsParts head body parts → with_parts (λ part. part.whole) 0 body parts ≡ body
unchanged sizes head body parts h = unchanged_from 0 body parts (parts_in_order sizes head body parts h)
