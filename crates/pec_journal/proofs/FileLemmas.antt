-- Lemmas on journal files: one entry more, and what a torn write leaves of them.
use Rattle.std.proofs.Common.{◌≡◌, ◌≢◌, inl, inr, ℕ, zero, suc, ◌+◌, ◌<◌, ◌≤◌, List, [], ◌∷◌, ◌++◌, length, get_or, take, drop, refl, sym, ap, ◌∙◌, subst, arith, append_assoc, length-append, length-take, take-append-drop}
use Rattle.std.specs.List.{All, flat_map}
use Rattle.std.specs.Int.{w32, to_be_bytes}
use Rattle.std.proofs.lemmas.Bool.{cases_eq}
use Rattle.std.proofs.lemmas.Grind.{flat_map-append}
use Rattle.std.proofs.lemmas.List.Elements.{All-append}
use Rattle.std.proofs.lemmas.List.{append-nil, take_at, drop_at, drop_more, drop-drop}
use Rattle.pec_outside.specs.DiskModel.{Torn, written}
use Rattle.pec_journal.specs.JournalFile.{IsFile, IsBeforeOrAfter, IsShort, front, framed, framing, header, open_gate, closed_gate, StandsAt}
use Rattle.pec_types.specs.declared.places.Place.{Place}

abbrev Bytes : Type 0
Bytes = List ℕ

-- ---- one entry more

pub length-framed : (entry : Bytes) → length (framed entry) ≡ 4 + length entry
length-framed entry = omega (arith, length-append (to_be_bytes w32 (length entry)) entry)

pub front-push : (entries : List Bytes) (entry : Bytes) → front (entries ++ entry ∷ []) ≡ front entries ++ open_gate ∷ framed entry
front-push entries entry =
    ap (λ (s : Bytes). header ++ s) (flat_map-append (λ e. open_gate ∷ framed e) entries (entry ∷ []) ∙ ap (λ (s : Bytes). flat_map (λ e. open_gate ∷ framed e) entries ++ s) (append-nil (open_gate ∷ framed entry)))
    ∙ sym (append_assoc header (flat_map (λ e. open_gate ∷ framed e) entries) (open_gate ∷ framed entry))

pub length-front-push : (entries : List Bytes) (entry : Bytes) → length (front (entries ++ entry ∷ [])) ≡ length (front entries) + framing + length entry
length-front-push entries entry = omega (arith, ap length (front-push entries entry), length-append (front entries) (open_gate ∷ framed entry), length-framed entry)

one_short : (entry : Bytes) → IsShort entry → All IsShort (entry ∷ [])
one_short entry short zero d within = short
one_short entry short (suc k) d within = absurd (omega (arith, within))

pub short_push : (entries : List Bytes) (entry : Bytes) → All IsShort entries → IsShort entry → All IsShort (entries ++ entry ∷ [])
short_push entries entry all short = All-append IsShort entries (entry ∷ []) all (one_short entry short)

-- the file of one entry more
pub file_of_more : (entries : List Bytes) (entry bytes : Bytes) (gate : ℕ) (rest : Bytes) → bytes ≡ front entries ++ open_gate ∷ (framed entry ++ gate ∷ rest)
    → gate ≢ open_gate → All IsShort (entries ++ entry ∷ []) → IsFile (entries ++ entry ∷ []) bytes
file_of_more entries entry bytes gate rest is closed short = record {
  gate = gate;
  rest = rest;
  is = is ∙ sym (append_assoc (front entries) (open_gate ∷ framed entry) (gate ∷ rest)) ∙ ap (λ (s : Bytes). s ++ gate ∷ rest) (sym (front-push entries entry));
  closed = closed;
  short = short;
}

-- ---- the first write, behind the closed gate

-- an entry stands whole behind a gate that isn't open, and a closed gate behind it
pub record IsStaged (entries : List Bytes) (entry bytes : Bytes) : Type 0 where
  pub gate : ℕ
  pub rest : Bytes
  pub is : bytes ≡ front entries ++ gate ∷ (framed entry ++ closed_gate ∷ rest)
  pub closed : gate ≢ open_gate
  pub short : All IsShort (entries ++ entry ∷ [])

module _ (entries : List Bytes) (seen : Bytes) (at : ℕ) (ends : at ≡ length (front entries)) where
  -- what stands before the place of an entry
  front_and : (gate : ℕ) (rest : Bytes) → seen ≡ front entries ++ gate ∷ rest → take (at + 1) seen ≡ front entries ++ gate ∷ []
  front_and gate rest is =
      ap (λ (s : Bytes). take (at + 1) s) (is ∙ sym (append_assoc (front entries) (gate ∷ []) rest))
      ∙ take_at (front entries ++ gate ∷ []) rest (at + 1) (omega (arith, ends, length-append (front entries) (gate ∷ [])))

  before : (gate : ℕ) (rest : Bytes) → seen ≡ front entries ++ gate ∷ rest → take at seen ≡ front entries
  before gate rest is = ap (λ (s : Bytes). take at s) is ∙ take_at (front entries) (gate ∷ rest) at (sym ends)

  behind : (gate : ℕ) (rest : Bytes) → seen ≡ front entries ++ gate ∷ rest → drop (at + 1) seen ≡ rest
  behind gate rest is =
      ap (λ (s : Bytes). drop (at + 1) s) (is ∙ sym (append_assoc (front entries) (gate ∷ []) rest))
      ∙ drop_at (front entries ++ gate ∷ []) rest (at + 1) (omega (arith, ends, length-append (front entries) (gate ∷ [])))

  size : (gate : ℕ) (rest : Bytes) → seen ≡ front entries ++ gate ∷ rest → length seen ≡ at + 1 + length rest
  size gate rest is = omega (arith, ends, ap length is, length-append (front entries) (gate ∷ rest))

  pub file_size : IsFile entries seen → at + 1 ≤ length seen
  file_size file = omega (arith, size file.gate file.rest file.is)

  -- the entries are those, whatever the write left
  pub torn_behind : (n : ℕ) (image : Bytes) → IsFile entries seen → Torn (at + 1) n seen image → IsFile entries image
  torn_behind n image file torn = record {
    gate = file.gate;
    rest = drop (at + 1) image;
    is = sym (take-append-drop (at + 1) image) ∙ ap (λ (s : Bytes). s ++ drop (at + 1) image) (torn.before ∙ front_and file.gate file.rest file.is) ∙ append_assoc (front entries) (file.gate ∷ []) (drop (at + 1) image);
    closed = file.closed;
    short = file.short;
  }

  pub staged : (entry : Bytes) → IsFile entries seen → IsShort entry → IsStaged entries entry (written seen (at + 1) (framed entry ++ closed_gate ∷ []))
  staged entry file short =
      let rest = drop (at + 1 + length (framed entry ++ closed_gate ∷ [])) seen in
      let piece = framed entry ++ closed_gate ∷ [] in
      record {
        gate = file.gate;
        rest = rest;
        is = ap (λ (s : Bytes). s ++ piece ++ rest) (front_and file.gate file.rest file.is)
            ∙ append_assoc (front entries ++ file.gate ∷ []) piece rest
            ∙ append_assoc (front entries) (file.gate ∷ []) (piece ++ rest)
            ∙ ap (λ (s : Bytes). front entries ++ file.gate ∷ s) (append_assoc (framed entry) (closed_gate ∷ []) rest);
        closed = file.closed;
        short = short_push entries entry file.short short;
      }

  -- ---- the second write, of the gate

  pub staged_size : (entry : Bytes) → IsStaged entries entry seen → at ≤ length seen
  staged_size entry stage = omega (arith, size stage.gate (framed entry ++ closed_gate ∷ stage.rest) stage.is)

  either_gate : (entry image : Bytes) (gate : ℕ) (rest : Bytes) → image ≡ front entries ++ gate ∷ (framed entry ++ closed_gate ∷ rest)
      → All IsShort entries → All IsShort (entries ++ entry ∷ []) → IsBeforeOrAfter entries entry image
  either_gate entry image gate rest is few short = elim (cases_eq gate open_gate) [
    | inl same ↦ inr (file_of_more entries entry image closed_gate rest (is ∙ ap (λ (g : ℕ). front entries ++ g ∷ (framed entry ++ closed_gate ∷ rest)) same) (λ (e : closed_gate ≡ open_gate). omega (arith, e)) short)
    | inr other ↦ inl (record { gate = gate; rest = framed entry ++ closed_gate ∷ rest; is = is; closed = other; short = few })
  ]

  pub torn_gate : (entry image : Bytes) → All IsShort entries → IsStaged entries entry seen → Torn at 1 seen image → IsBeforeOrAfter entries entry image
  torn_gate entry image few stage torn =
      let tail = framed entry ++ closed_gate ∷ stage.rest in
      let gate = get_or image at 0 in
      let back : drop at image ≡ gate ∷ tail =
      drop_more image at 0 (omega (arith, torn.no_shorter, size stage.gate tail stage.is)) ∙ ap (λ (s : Bytes). gate ∷ s) (torn.behind ∙ behind stage.gate tail stage.is) in
      let whole : image ≡ front entries ++ gate ∷ tail =
      sym (take-append-drop at image) ∙ ap (λ (s : Bytes). s ++ drop at image) (torn.before ∙ before stage.gate tail stage.is) ∙ ap (λ (s : Bytes). front entries ++ s) back in
      either_gate entry image gate stage.rest whole few stage.short

  pub opened : (entry : Bytes) → IsStaged entries entry seen → IsFile (entries ++ entry ∷ []) (written seen at (open_gate ∷ []))
  opened entry stage =
      let tail = framed entry ++ closed_gate ∷ stage.rest in
      file_of_more entries entry (written seen at (open_gate ∷ [])) closed_gate stage.rest
      (ap (λ (s : Bytes). s ++ open_gate ∷ [] ++ drop (at + 1) seen) (before stage.gate tail stage.is)
      ∙ ap (λ (s : Bytes). front entries ++ open_gate ∷ [] ++ s) (behind stage.gate tail stage.is)
      ∙ append_assoc (front entries) (open_gate ∷ []) tail)
      (λ (e : closed_gate ≡ open_gate). omega (arith, e)) stage.short

-- ---- the bytes of an entry at its place

pub drop_front : (entries : List Bytes) (tail : Bytes) (n : ℕ) → drop (length (front entries) + n) (front entries ++ tail) ≡ drop n tail
drop_front entries tail n =
    sym (drop-drop n (length (front entries)) (front entries ++ tail)) ∙ ap (λ (s : Bytes). drop n s) (drop_at (front entries) tail (length (front entries)) refl)

front_split : (earlier later : List Bytes) (entry : Bytes) → front (earlier ++ entry ∷ later) ≡ front earlier ++ (open_gate ∷ framed entry) ++ flat_map (λ e. open_gate ∷ framed e) later
front_split earlier later entry =
    ap (λ (s : Bytes). header ++ s) (flat_map-append (λ e. open_gate ∷ framed e) earlier (entry ∷ later))
    ∙ sym (append_assoc header (flat_map (λ e. open_gate ∷ framed e) earlier) (open_gate ∷ framed entry ++ flat_map (λ e. open_gate ∷ framed e) later))
    ∙ sym (append_assoc (front earlier) (open_gate ∷ framed entry) (flat_map (λ e. open_gate ∷ framed e) later))

pub entry_there : (place : Place) (entry : Bytes) (entries : List Bytes) (seen : Bytes) → IsFile entries seen → StandsAt place entry entries
    → (more : Bytes) × (drop place.at seen ≡ entry ++ more)
entry_there place entry entries seen file stands =
    let later = flat_map (λ e. open_gate ∷ framed e) stands.later in
    let more = later ++ file.gate ∷ file.rest in
    let whole : seen ≡ front stands.earlier ++ ((open_gate ∷ framed entry) ++ more) =
    file.is
    ∙ ap (λ (es : List Bytes). front es ++ file.gate ∷ file.rest) stands.is
    ∙ ap (λ (s : Bytes). s ++ file.gate ∷ file.rest) (front_split stands.earlier stands.later entry)
    ∙ append_assoc (front stands.earlier ++ (open_gate ∷ framed entry)) later (file.gate ∷ file.rest)
    ∙ append_assoc (front stands.earlier) (open_gate ∷ framed entry) more in
    let there : drop (length (front stands.earlier) + framing) seen ≡ entry ++ more =
    ap (λ (s : Bytes). drop (length (front stands.earlier) + framing) s) whole ∙ drop_front stands.earlier ((open_gate ∷ framed entry) ++ more) framing in
    (more, subst (λ (k : ℕ). drop k seen ≡ entry ++ more) (sym stands.at) there)

-- ---- a write behind a place

pub still_there : (bytes piece : Bytes) (at : ℕ) → at < length bytes → at ≤ length (written bytes (at + 1) piece)
still_there bytes piece at within =
    omega (arith, length-append (take (at + 1) bytes ++ piece) (drop (at + 1 + length piece) bytes), length-append (take (at + 1) bytes) piece, length-take (at + 1) bytes)
