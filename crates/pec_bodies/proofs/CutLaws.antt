-- The places of parts: what reading line by line finds is what `Multiparts` says, and nothing else is.
use Rattle.std.proofs.Common.{◌≡◌, ◌≢◌, ℕ, ◌+◌, List, [], ◌∷◌, ◌++◌, map, length, Option, Some, None, Result, Ok, Err, refl, ap, sym, ◌∙◌, arith, append_assoc, zero-add}
use Rattle.std.proofs.lemmas.List.{append-nil}
use Rattle.std.specs.List.{flat_map}
use Rattle.pec_heads.specs.Lines.{whole_lines, content_of, size, last_piece}
use Rattle.pec_bodies.specs.Marks.{mark_of}
use Rattle.pec_bodies.specs.Multiparts.{AllSections, AllText, Closes, HasNoClosing, HasNoDelimiter, IsMarked, IsMultipart, Span, Section, inner_size, section_lines, spans_of}
use Rattle.pec_bodies.specs.PartsReading.{PlacedBytes, behind_opening, between, by_mark, cut_of, opening_from, placed_at, wholes_from}
use Rattle.pec_bodies.specs.declared.faults.BodyFault.{BodyFault}
use Rattle.pec_bodies.specs.declared.faults.BodyFault.TheVariants.{NoBoundary, NoOpening, NoClosing, PartHead, NoMemory}
use Rattle.pec_bodies.specs.declared.marks.Mark.{Mark}
use Rattle.pec_bodies.specs.declared.marks.Mark.TheVariants.{Delimiter, Closing, Text}

-- ---- the first delimiter

pub record Opened (boundary : List ℕ) (at : ℕ) (lines : List (List ℕ)) (place : ℕ) (rest : List (List ℕ)) : Type 0 where
  pub before : List (List ℕ)
  pub delimiter : List ℕ
  pub parts : lines ≡ before ++ delimiter ∷ rest
  pub passed : HasNoDelimiter boundary before
  pub marked : IsMarked boundary Delimiter delimiter
  pub place_is : place ≡ at + (size before + (length delimiter + 1))

abbrev pub OpeningSays : List ℕ → ℕ → List (List ℕ) → Option (ℕ × List (List ℕ)) → Type 0
OpeningSays b at lines None = HasNoDelimiter b lines
OpeningSays b at lines (Some opening) = Opened b at lines opening.0 opening.1

opening_later : (b : List ℕ) (at : ℕ) (line : List ℕ) (lines : List (List ℕ)) (o : Option (ℕ × List (List ℕ))) → mark_of b (content_of line) ≢ Delimiter
    → OpeningSays b (at + (length line + 1)) lines o → OpeningSays b at (line ∷ lines) o
opening_later b at line lines None n h = (n, h)
opening_later b at line lines (Some opening) n h = record {
  before = line ∷ h.before;
  delimiter = h.delimiter;
  parts = ap (λ ls. line ∷ ls) h.parts;
  passed = (n, h.passed);
  marked = h.marked;
  place_is = omega (arith, h.place_is);
}

closing_other : (m : Mark) → m ≡ Closing → m ≢ Delimiter
closing_other m e d = absurd cc

text_other : (m : Mark) → m ≡ Text → m ≢ Delimiter
text_other m e d = absurd cc

opening_step : (b : List ℕ) (at : ℕ) (line : List ℕ) (lines : List (List ℕ)) (m : Mark) (o : Option (ℕ × List (List ℕ))) → mark_of b (content_of line) ≡ m
    → OpeningSays b (at + (length line + 1)) lines o → OpeningSays b at (line ∷ lines) (by_mark m (Some (at + (length line + 1), lines)) o o)
opening_step b at line lines Delimiter o e h = record { before = []; delimiter = line; parts = refl; passed = tt; marked = e; place_is = omega arith }
opening_step b at line lines Closing o e h = opening_later b at line lines o (closing_other _ e) h
opening_step b at line lines Text o e h = opening_later b at line lines o (text_other _ e) h

opening_says : (b : List ℕ) (at : ℕ) (lines : List (List ℕ)) → OpeningSays b at lines (opening_from b at lines)
opening_says b at [] = tt
opening_says b at (line ∷ lines) =
    opening_step b at line lines (mark_of b (content_of line)) (opening_from b (at + (length line + 1)) lines) refl (opening_says b (at + (length line + 1)) lines)

not_marked : {X : Type 0} (m : Mark) (delimiter other : X) → m ≢ Delimiter → by_mark m delimiter other other ≡ other
not_marked Delimiter delimiter other n = absurd (n refl)
not_marked Closing delimiter other n = refl
not_marked Text delimiter other n = refl

opening_again : (b : List ℕ) (at : ℕ) (before : List (List ℕ)) (delimiter : List ℕ) (rest : List (List ℕ)) → HasNoDelimiter b before → IsMarked b Delimiter delimiter
    → opening_from b at (before ++ delimiter ∷ rest) ≡ Some (at + (size before + (length delimiter + 1)), rest)
opening_again b at [] delimiter rest n e = rw e (ap (λ p. Some (p, rest)) (omega arith))
opening_again b at (line ∷ before) delimiter rest n e =
    not_marked (mark_of b (content_of line)) (Some (at + (length line + 1), before ++ delimiter ∷ rest)) (opening_from b (at + (length line + 1)) (before ++ delimiter ∷ rest)) n.0
    ∙ opening_again b (at + (length line + 1)) before delimiter rest n.1 e
    ∙ ap (λ p. Some (p, rest)) (omega arith)

pub opening_none : (b : List ℕ) (at : ℕ) (lines : List (List ℕ)) → HasNoDelimiter b lines → opening_from b at lines ≡ None
opening_none b at [] n = refl
opening_none b at (line ∷ lines) n =
    not_marked (mark_of b (content_of line)) (Some (at + (length line + 1), lines)) (opening_from b (at + (length line + 1)) lines) n.0
    ∙ opening_none b (at + (length line + 1)) lines n.1

-- ---- the parts behind it

abbrev read_from : List ℕ → List ℕ → List ℕ → List PlacedBytes → ℕ → ℕ → ℕ → List (List ℕ) → Result (List PlacedBytes) BodyFault
read_from body b last wholes start stop at lines =
    wholes_from (record { body = body; boundary = b; last = last }) wholes (record { start = start; stop = stop; at = at }) lines

-- where a part ends that has come as far as stop, with lines behind that that begin at a place
abbrev pub stop_after : ℕ → ℕ → List (List ℕ) → ℕ
stop_after stop at [] = stop
stop_after stop at (line ∷ lines) = at + inner_size (line ∷ lines)

stop_step : (stop at : ℕ) (line : List ℕ) (lines : List (List ℕ)) → stop_after (at + length (content_of line)) (at + (length line + 1)) lines ≡ stop_after stop at (line ∷ lines)
stop_step stop at line [] = refl
stop_step stop at line (next ∷ lines) = omega arith

abbrev pub wholes_at : List ℕ → ℕ → ℕ → ℕ → List (List ℕ) → List Section → List PlacedBytes
wholes_at body start stop at texts sections = between body start (stop_after stop at texts) ∷ map (placed_at body) (spans_of (at + size texts) sections)

pub record Run (body boundary last : List ℕ) (wholes : List PlacedBytes) (start stop at : ℕ) (lines : List (List ℕ)) (read : List PlacedBytes) : Type 0 where
  pub texts : List (List ℕ)
  pub sections : List Section
  pub rest : List (List ℕ)
  pub parts : lines ≡ texts ++ (flat_map section_lines sections ++ rest)
  pub text : AllText boundary texts
  pub each : AllSections boundary sections
  pub closes : Closes boundary rest last
  pub read_is : read ≡ wholes ++ wholes_at body start stop at texts sections

pub record Unclosed (boundary last : List ℕ) (lines : List (List ℕ)) : Type 0 where
  pub texts : List (List ℕ)
  pub sections : List Section
  pub parts : lines ≡ texts ++ flat_map section_lines sections
  pub text : AllText boundary texts
  pub each : AllSections boundary sections
  pub open_ : mark_of boundary last ≢ Closing

abbrev pub RunSays : List ℕ → List ℕ → List ℕ → List PlacedBytes → ℕ → ℕ → ℕ → List (List ℕ) → Result (List PlacedBytes) BodyFault → Type 0
RunSays body b last wholes start stop at lines (Ok read) = Run body b last wholes start stop at lines read
RunSays body b last wholes start stop at lines (Err NoClosing) = Unclosed b last lines
RunSays body b last wholes start stop at lines (Err NoBoundary) = ⊥
RunSays body b last wholes start stop at lines (Err NoOpening) = ⊥
RunSays body b last wholes start stop at lines (Err (PartHead i fault)) = ⊥
RunSays body b last wholes start stop at lines (Err NoMemory) = ⊥

not_closing : (m other : Mark) → m ≡ other → other ≢ Closing → m ≢ Closing
not_closing m other e n c = n (sym e ∙ c)

delimiter_opens : Delimiter ≢ Closing
delimiter_opens e = absurd cc

text_opens : Text ≢ Closing
text_opens e = absurd cc

closed_at : (body b last : List ℕ) (wholes : List PlacedBytes) (start stop at : ℕ) (rest : List (List ℕ)) → Closes b rest last
    → Run body b last wholes start stop at rest (wholes ++ between body start stop ∷ [])
closed_at body b last wholes start stop at rest closes =
    record { texts = []; sections = []; rest = rest; parts = refl; text = tt; each = tt; closes = closes; read_is = refl }

end_says : (body b last : List ℕ) (wholes : List PlacedBytes) (start stop at : ℕ) (m : Mark) → mark_of b last ≡ m
    → RunSays body b last wholes start stop at [] (by_mark m (Err NoClosing) (Ok (wholes ++ between body start stop ∷ [])) (Err NoClosing))
end_says body b last wholes start stop at Delimiter e = record { texts = []; sections = []; parts = refl; text = tt; each = tt; open_ = not_closing _ _ e delimiter_opens }
end_says body b last wholes start stop at Closing e = closed_at body b last wholes start stop at [] e
end_says body b last wholes start stop at Text e = record { texts = []; sections = []; parts = refl; text = tt; each = tt; open_ = not_closing _ _ e text_opens }

section_front : (delimiter : List ℕ) (texts : List (List ℕ)) (sections : List Section) (rest lines : List (List ℕ)) → lines ≡ texts ++ (flat_map section_lines sections ++ rest)
    → delimiter ∷ lines ≡ flat_map section_lines (record { delimiter = delimiter; lines = texts } ∷ sections) ++ rest
section_front delimiter texts sections rest lines e = ap (λ ls. delimiter ∷ ls) (e ∙ sym (append_assoc texts (flat_map section_lines sections) rest))

-- the places of a section whose part begins at a place
section_places : (body : List ℕ) (at next : ℕ) (delimiter : List ℕ) (texts : List (List ℕ)) (sections : List Section) → next ≡ at + (length delimiter + 1)
    → wholes_at body next next next texts sections ≡ map (placed_at body) (spans_of at (record { delimiter = delimiter; lines = texts } ∷ sections))
section_places body at next delimiter [] sections e =
    rw e (ap (λ k. between body (at + (length delimiter + 1)) k ∷ map (placed_at body) (spans_of (at + (length delimiter + 1) + 0) sections)) (omega arith)
    ∙ ap (λ k. between body (at + (length delimiter + 1)) (at + (length delimiter + 1) + 0) ∷ map (placed_at body) (spans_of k sections)) (omega arith))
section_places body at next delimiter (line ∷ texts) sections e =
    rw e (ap (λ k. between body (at + (length delimiter + 1)) (at + (length delimiter + 1) + inner_size (line ∷ texts)) ∷ map (placed_at body) (spans_of k sections)) (omega arith))

run_delimiter : (body b last : List ℕ) (wholes : List PlacedBytes) (start stop at next : ℕ) (line : List ℕ) (lines : List (List ℕ)) (r : Result (List PlacedBytes) BodyFault)
    → next ≡ at + (length line + 1) → IsMarked b Delimiter line → RunSays body b last (wholes ++ between body start stop ∷ []) next next next lines r
    → RunSays body b last wholes start stop at (line ∷ lines) r
run_delimiter body b last wholes start stop at next line lines (Ok read) n e h = record {
  texts = [];
  sections = record { delimiter = line; lines = h.texts } ∷ h.sections;
  rest = h.rest;
  parts = section_front line h.texts h.sections h.rest lines h.parts;
  text = tt;
  each = (e, h.text, h.each);
  closes = h.closes;
  read_is = h.read_is ∙ append_assoc wholes (between body start stop ∷ []) (wholes_at body next next next h.texts h.sections)
      ∙ ap (λ ws. wholes ++ between body start stop ∷ ws) (section_places body (at + 0) next line h.texts h.sections (omega (arith, n)));
}
run_delimiter body b last wholes start stop at next line lines (Err NoClosing) n e h = record {
  texts = [];
  sections = record { delimiter = line; lines = h.texts } ∷ h.sections;
  parts = ap (λ ls. line ∷ ls) h.parts;
  text = tt;
  each = (e, h.text, h.each);
  open_ = h.open_;
}
run_delimiter body b last wholes start stop at next line lines (Err NoBoundary) n e h = h
run_delimiter body b last wholes start stop at next line lines (Err NoOpening) n e h = h
run_delimiter body b last wholes start stop at next line lines (Err (PartHead i fault)) n e h = h
run_delimiter body b last wholes start stop at next line lines (Err NoMemory) n e h = h

text_wholes : (body : List ℕ) (start stop at : ℕ) (line : List ℕ) (texts : List (List ℕ)) (sections : List Section)
    → wholes_at body start (at + length (content_of line)) (at + (length line + 1)) texts sections ≡ wholes_at body start stop at (line ∷ texts) sections
text_wholes body start stop at line texts sections =
    rw (stop_step stop at line texts)
    (ap (λ k. between body start (stop_after stop at (line ∷ texts)) ∷ map (placed_at body) (spans_of k sections)) (omega arith))

run_text : (body b last : List ℕ) (wholes : List PlacedBytes) (start stop at : ℕ) (line : List ℕ) (lines : List (List ℕ)) (r : Result (List PlacedBytes) BodyFault)
    → IsMarked b Text line → RunSays body b last wholes start (at + length (content_of line)) (at + (length line + 1)) lines r
    → RunSays body b last wholes start stop at (line ∷ lines) r
run_text body b last wholes start stop at line lines (Ok read) e h = record {
  texts = line ∷ h.texts;
  sections = h.sections;
  rest = h.rest;
  parts = ap (λ ls. line ∷ ls) h.parts;
  text = (e, h.text);
  each = h.each;
  closes = h.closes;
  read_is = h.read_is ∙ ap (λ ws. wholes ++ ws) (text_wholes body start stop at line h.texts h.sections);
}
run_text body b last wholes start stop at line lines (Err NoClosing) e h = record {
  texts = line ∷ h.texts;
  sections = h.sections;
  parts = ap (λ ls. line ∷ ls) h.parts;
  text = (e, h.text);
  each = h.each;
  open_ = h.open_;
}
run_text body b last wholes start stop at line lines (Err NoBoundary) e h = h
run_text body b last wholes start stop at line lines (Err NoOpening) e h = h
run_text body b last wholes start stop at line lines (Err (PartHead i fault)) e h = h
run_text body b last wholes start stop at line lines (Err NoMemory) e h = h

run_step : (body b last : List ℕ) (wholes : List PlacedBytes) (start stop at : ℕ) (line : List ℕ) (lines : List (List ℕ)) (m : Mark) (behind text : Result (List PlacedBytes) BodyFault)
    → mark_of b (content_of line) ≡ m
    → RunSays body b last (wholes ++ between body start stop ∷ []) (at + (length line + 1)) (at + (length line + 1)) (at + (length line + 1)) lines behind
    → RunSays body b last wholes start (at + length (content_of line)) (at + (length line + 1)) lines text
    → RunSays body b last wholes start stop at (line ∷ lines) (by_mark m behind (Ok (wholes ++ between body start stop ∷ [])) text)
run_step body b last wholes start stop at line lines Delimiter behind text e h k = run_delimiter body b last wholes start stop at (at + (length line + 1)) line lines behind refl e h
run_step body b last wholes start stop at line lines Closing behind text e h k = closed_at body b last wholes start stop at (line ∷ lines) e
run_step body b last wholes start stop at line lines Text behind text e h k = run_text body b last wholes start stop at line lines text e k

pub runs : (body b last : List ℕ) (wholes : List PlacedBytes) (start stop at : ℕ) (lines : List (List ℕ))
    → RunSays body b last wholes start stop at lines (read_from body b last wholes start stop at lines)
runs body b last wholes start stop at [] = end_says body b last wholes start stop at (mark_of b last) refl
runs body b last wholes start stop at (line ∷ lines) =
    run_step body b last wholes start stop at line lines (mark_of b (content_of line)) _ _ refl
    (runs body b last (wholes ++ between body start stop ∷ []) (at + (length line + 1)) (at + (length line + 1)) (at + (length line + 1)) lines)
    (runs body b last wholes start (at + length (content_of line)) (at + (length line + 1)) lines)

-- ---- the way back

text_again : (body b last : List ℕ) (wholes : List PlacedBytes) (start stop at : ℕ) (texts lines : List (List ℕ)) → AllText b texts
    → read_from body b last wholes start stop at (texts ++ lines) ≡ read_from body b last wholes start (stop_after stop at texts) (at + size texts) lines
text_again body b last wholes start stop at [] lines h = ap (λ k. read_from body b last wholes start stop k lines) (omega arith)
text_again body b last wholes start stop at (line ∷ texts) lines h =
    rw h.0 (text_again body b last wholes start (at + length (content_of line)) (at + (length line + 1)) texts lines h.1)
    ∙ ap (λ k. read_from body b last wholes start k (at + (length line + 1) + size texts) lines) (stop_step stop at line texts)
    ∙ ap (λ k. read_from body b last wholes start (stop_after stop at (line ∷ texts)) k lines) (omega arith)

section_then : (s : Section) (sections : List Section) (lines : List (List ℕ)) → flat_map section_lines (s ∷ sections) ++ lines ≡ s.delimiter ∷ (s.lines ++ (flat_map section_lines sections ++ lines))
section_then s sections lines = ap (λ ls. s.delimiter ∷ ls) (append_assoc s.lines (flat_map section_lines sections) lines)

-- Reading comes behind these sections with a part that ends there.
pub record Reached (body b last : List ℕ) (wholes : List PlacedBytes) (start stop at : ℕ) (sections : List Section) (lines : List (List ℕ)) : Type 0 where
  pub read : List PlacedBytes
  pub begins : ℕ
  pub ends : ℕ
  pub place : ℕ
  pub goes_on : read_from body b last wholes start stop at (flat_map section_lines sections ++ lines) ≡ read_from body b last read begins ends place lines
  pub read_is : read ++ between body begins ends ∷ [] ≡ wholes ++ between body start stop ∷ map (placed_at body) (spans_of at sections)

stop_is : (at : ℕ) (lines : List (List ℕ)) → stop_after at at lines ≡ at + inner_size lines
stop_is at [] = omega arith
stop_is at (line ∷ lines) = refl

section_again : (body b last : List ℕ) (wholes : List PlacedBytes) (start stop at : ℕ) (s : Section) (lines : List (List ℕ)) → IsMarked b Delimiter s.delimiter → AllText b s.lines
    → read_from body b last wholes start stop at (s.delimiter ∷ (s.lines ++ lines))
    ≡ read_from body b last (wholes ++ between body start stop ∷ []) (at + (length s.delimiter + 1)) (at + (length s.delimiter + 1) + inner_size s.lines) (at + size (section_lines s)) lines
section_again body b last wholes start stop at s lines e h =
    let next = at + (length s.delimiter + 1)
    in rw e (text_again body b last (wholes ++ between body start stop ∷ []) next next next s.lines lines h)
    ∙ ap (λ k. read_from body b last (wholes ++ between body start stop ∷ []) next k (next + size s.lines) lines) (stop_is next s.lines)
    ∙ ap (λ k. read_from body b last (wholes ++ between body start stop ∷ []) next (next + inner_size s.lines) k lines) (omega arith)

reaches : (body b last : List ℕ) (wholes : List PlacedBytes) (start stop at : ℕ) (sections : List Section) (lines : List (List ℕ)) → AllSections b sections
    → Reached body b last wholes start stop at sections lines
reaches body b last wholes start stop at [] lines h = record { read = wholes; begins = start; ends = stop; place = at; goes_on = refl; read_is = refl }
reaches body b last wholes start stop at (s ∷ sections) lines h =
    let next = at + (length s.delimiter + 1)
    in let r = reaches body b last (wholes ++ between body start stop ∷ []) next (next + inner_size s.lines) (at + size (section_lines s)) sections lines h.2
    in record {
      read = r.read;
      begins = r.begins;
      ends = r.ends;
      place = r.place;
      goes_on = ap (read_from body b last wholes start stop at) (section_then s sections lines)
          ∙ section_again body b last wholes start stop at s (flat_map section_lines sections ++ lines) h.0 h.1
          ∙ r.goes_on;
      read_is = r.read_is ∙ append_assoc wholes (between body start stop ∷ []) (map (placed_at body) (spans_of at (s ∷ sections)));
    }

closes_there : (body b last : List ℕ) (wholes : List PlacedBytes) (start stop at : ℕ) (rest : List (List ℕ)) → Closes b rest last
    → read_from body b last wholes start stop at rest ≡ Ok (wholes ++ between body start stop ∷ [])
closes_there body b last wholes start stop at [] closes = rw closes refl
closes_there body b last wholes start stop at (line ∷ rest) closes = rw closes refl

no_closing : {X : Type 0} (m : Mark) (read : Result X BodyFault) → m ≢ Closing → by_mark m (Err NoClosing) read (Err NoClosing) ≡ Err NoClosing
no_closing Delimiter read n = refl
no_closing Closing read n = absurd (n refl)
no_closing Text read n = refl

-- ---- whole bodies

abbrev pub CutSays : List ℕ → List ℕ → Result (List PlacedBytes) BodyFault → Type 0
CutSays b body (Ok wholes) = (places : List Span) × (IsMultipart b body places × (wholes ≡ map (placed_at body) places))
CutSays b body (Err NoOpening) = HasNoDelimiter b (whole_lines body)
CutSays b body (Err NoClosing) = HasNoClosing b body
CutSays b body (Err NoBoundary) = ⊥
CutSays b body (Err (PartHead i fault)) = ⊥
CutSays b body (Err NoMemory) = ⊥

behind_says : (b body : List ℕ) (place : ℕ) (lines : List (List ℕ)) (r : Result (List PlacedBytes) BodyFault) → Opened b 0 (whole_lines body) place lines
    → RunSays body b (last_piece body) [] place place place lines r → CutSays b body r
behind_says b body place lines (Ok read) o h = (
  spans_of (size o.before) (record { delimiter = o.delimiter; lines = h.texts } ∷ h.sections),
  (
    record {
      before = o.before;
      first = record { delimiter = o.delimiter; lines = h.texts };
      others = h.sections;
      rest = h.rest;
      lines = o.parts ∙ ap (λ ls. o.before ++ ls) (section_front o.delimiter h.texts h.sections h.rest lines h.parts);
      passed = o.passed;
      each = (o.marked, h.text, h.each);
      closes = h.closes;
      places_are = refl;
    },
    h.read_is ∙ section_places body (size o.before) place o.delimiter h.texts h.sections (omega (arith, o.place_is)),
  ),
)
behind_says b body place lines (Err NoClosing) o h = record {
  before = o.before;
  first = record { delimiter = o.delimiter; lines = h.texts };
  others = h.sections;
  lines = o.parts ∙ ap (λ ls. o.before ++ o.delimiter ∷ ls) h.parts;
  passed = o.passed;
  each = (o.marked, h.text, h.each);
  open_ = h.open_;
}
behind_says b body place lines (Err NoBoundary) o h = h
behind_says b body place lines (Err NoOpening) o h = absurd h
behind_says b body place lines (Err (PartHead i fault)) o h = h
behind_says b body place lines (Err NoMemory) o h = h

opened_says : (b body : List ℕ) (o : Option (ℕ × List (List ℕ))) → OpeningSays b 0 (whole_lines body) o → CutSays b body (behind_opening b body o)
opened_says b body None h = h
opened_says b body (Some opening) h =
    behind_says b body opening.0 opening.1 (read_from body b (last_piece body) [] opening.0 opening.0 opening.0 opening.1) h
    (runs body b (last_piece body) [] opening.0 opening.0 opening.0 opening.1)

pub cut_says : (b body : List ℕ) → CutSays b body (cut_of b body)
unfolding cut_of
cut_says b body = opened_says b body (opening_from b 0 (whole_lines body)) (opening_says b 0 (whole_lines body))

-- reading from the first delimiter on, behind lines that are none
at_first : (b body : List ℕ) (before : List (List ℕ)) (first : Section) (others : List Section) (rest : List (List ℕ))
    → whole_lines body ≡ before ++ (flat_map section_lines (first ∷ others) ++ rest) → HasNoDelimiter b before → AllSections b (first ∷ others)
    → (r : List PlacedBytes) × ((begins : ℕ) × ((ends : ℕ) × ((place : ℕ) × (
    (cut_of b body ≡ read_from body b (last_piece body) r begins ends place rest) × (r ++ between body begins ends ∷ [] ≡ map (placed_at body) (spans_of (size before) (first ∷ others)))))))
unfolding cut_of
at_first b body before first others rest lines passed each =
    let next = size before + (length first.delimiter + 1)
    in let h = reaches body b (last_piece body) [] next (next + inner_size first.lines) (size before + size (section_lines first)) others rest each.2
    in (
      h.read,
      (
        h.begins,
        (
          h.ends,
          (
            h.place,
            (
              ap (λ ls. behind_opening b body (opening_from b 0 ls)) (lines ∙ ap (λ ls. before ++ ls) (section_then first others rest))
                  ∙ ap (behind_opening b body) (opening_again b 0 before first.delimiter (first.lines ++ (flat_map section_lines others ++ rest)) passed each.0)
                  ∙ ap (λ k. read_from body b (last_piece body) [] k k k (first.lines ++ (flat_map section_lines others ++ rest))) (zero-add next)
                  ∙ text_again body b (last_piece body) [] next next next first.lines (flat_map section_lines others ++ rest) each.1
                  ∙ ap (λ k. read_from body b (last_piece body) [] next k (next + size first.lines) (flat_map section_lines others ++ rest)) (stop_is next first.lines)
                  ∙ ap (λ k. read_from body b (last_piece body) [] next (next + inner_size first.lines) k (flat_map section_lines others ++ rest)) (omega arith)
                  ∙ h.goes_on,
              h.read_is,
            ),
          ),
        ),
      ),
    )

pub cut_again : (b body : List ℕ) (places : List Span) → IsMultipart b body places → cut_of b body ≡ Ok (map (placed_at body) places)
cut_again b body places h =
    let f = at_first b body h.before h.first h.others h.rest h.lines h.passed h.each
    in f.1.1.1.1.0 ∙ closes_there body b (last_piece body) f.0 f.1.0 f.1.1.0 f.1.1.1.0 h.rest h.closes ∙ ap Ok (f.1.1.1.1.1 ∙ ap (map (placed_at body)) (sym h.places_are))

pub no_opening_again : (b body : List ℕ) → HasNoDelimiter b (whole_lines body) → cut_of b body ≡ Err NoOpening
unfolding cut_of
no_opening_again b body h = ap (behind_opening b body) (opening_none b 0 (whole_lines body) h)

pub no_closing_again : (b body : List ℕ) → HasNoClosing b body → cut_of b body ≡ Err NoClosing
no_closing_again b body h =
    let f = at_first b body h.before h.first h.others [] (h.lines ∙ ap (λ ls. h.before ++ ls) (sym (append-nil (flat_map section_lines (h.first ∷ h.others))))) h.passed h.each
    in f.1.1.1.1.0 ∙ no_closing (mark_of b (last_piece body)) (Ok (f.0 ++ between body f.1.0 f.1.1.0 ∷ [])) h.open_
