-- Lemmas on reading a journal file gate by gate.
use Rattle.std.proofs.Common.{◌≡◌, inl, inr, ℕ, zero, suc, ◌+◌, ◌<◌, ◌≤◌, ◌^◌, List, [], ◌∷◌, ◌++◌, length, get_or, take, drop, refl, sym, ap, ◌∙◌, subst, arith, append_assoc, length-append, length-take, length-drop, take-append-drop}
use Rattle.std.specs.List.{flat_map, slice_index_or}
use Rattle.std.specs.Int.{w32, to_be_bytes, from_be_bytes}
use Rattle.std.proofs.lemmas.Nat.{be_bytes_4}
use Rattle.std.proofs.lemmas.List.{append-nil, take_at}
use Rattle.pec_types.specs.declared.places.Place.{Place}
use Rattle.pec_journal.specs.declared.reopening.Stand.TheVariants.{Entry}
use Rattle.pec_journal.specs.JournalFile.{IsBroken, StandsAt, front, framed, framing, open_gate, header, places_from, places_of}
use Rattle.pec_journal.specs.Reopening.{Holds, HoldsNone, Stood}
use Rattle.pec_journal.proofs.FileLemmas.{length-framed, front-push, length-front-push, short_push}

abbrev Bytes : Type 0
Bytes = List ℕ

-- a whole entry behind an open gate
pub whole_entry : (bytes tail : Bytes) (n : ℕ) → length bytes ≡ 5 → ((i : ℕ) → get_or bytes i 0 < 256) → get_or bytes 0 0 ≡ open_gate
    → n ≡ from_be_bytes w32 (get_or bytes 1 0 ∷ get_or bytes 2 0 ∷ get_or bytes 3 0 ∷ get_or bytes 4 0 ∷ [])
    → bytes ≡ take framing tail → framing + n ≤ length tail → n < 2 ^ 32 → Holds tail (Entry n)
whole_entry (a ∷ b ∷ c ∷ d ∷ e ∷ []) tail n five small gate is taken long short =
    let entry = take n (drop framing tail) in
    let more = drop n (drop framing tail) in
    let size : length entry ≡ n = omega (arith, length-take n (drop framing tail), length-drop framing tail, long) in
    let digits : to_be_bytes w32 n ≡ b ∷ c ∷ d ∷ e ∷ [] = be_bytes_4 (b ∷ c ∷ d ∷ e ∷ []) n refl (λ i. small (suc i)) is in
    let whole : tail ≡ open_gate ∷ (framed entry ++ more) =
    sym (take-append-drop framing tail)
    ∙ ap (λ (s : Bytes). s ++ drop framing tail) (sym taken)
    ∙ ap (λ (g : ℕ). g ∷ b ∷ c ∷ d ∷ e ∷ drop framing tail) gate
    ∙ ap (λ (s : Bytes). open_gate ∷ (s ++ drop framing tail)) (sym digits)
    ∙ ap (λ (k : ℕ). open_gate ∷ (to_be_bytes w32 k ++ drop framing tail)) (sym size)
    ∙ ap (λ (s : Bytes). open_gate ∷ (to_be_bytes w32 (length entry) ++ s)) (sym (take-append-drop n (drop framing tail)))
    ∙ ap (λ (s : Bytes). open_gate ∷ s) (sym (append_assoc (to_be_bytes w32 (length entry)) entry more)) in
    (entry, more, whole, size, short)
whole_entry [] tail n five small gate is taken long short = absurd (omega (arith, five))
whole_entry (a ∷ []) tail n five small gate is taken long short = absurd (omega (arith, five))
whole_entry (a ∷ b ∷ []) tail n five small gate is taken long short = absurd (omega (arith, five))
whole_entry (a ∷ b ∷ c ∷ []) tail n five small gate is taken long short = absurd (omega (arith, five))
whole_entry (a ∷ b ∷ c ∷ d ∷ []) tail n five small gate is taken long short = absurd (omega (arith, five))
whole_entry (a ∷ b ∷ c ∷ d ∷ e ∷ f ∷ bytes) tail n five small gate is taken long short = absurd (omega (arith, five))

-- ---- one entry more was read

-- what stands behind the place
tail_of : (seen : Bytes) (at : ℕ) (entries : List Bytes) (tail : Bytes) → take at seen ≡ front entries → drop at seen ≡ tail → seen ≡ front entries ++ tail
tail_of seen at entries tail before behind = sym (take-append-drop at seen) ∙ ap (λ (s : Bytes). s ++ drop at seen) before ∙ ap (λ (s : Bytes). front entries ++ s) behind

places_from-push : (at : ℕ) (entries : List Bytes) (entry : Bytes) (end : ℕ) → end ≡ at + length (flat_map (λ e. open_gate ∷ framed e) entries)
    → places_from at (entries ++ entry ∷ []) ≡ places_from at entries ++ record { at = end + framing; length = length entry } ∷ []
places_from-push at [] entry end is = ap (λ (k : ℕ). record { at = k + framing; length = length entry } ∷ []) (omega (arith, is))
places_from-push at (e ∷ entries) entry end is =
    ap (λ (ps : List Place). record { at = at + framing; length = length e } ∷ ps)
    (places_from-push (at + framing + length e) entries entry end
    (omega (arith, is, length-append (open_gate ∷ framed e) (flat_map (λ x. open_gate ∷ framed x) entries), length-framed e)))

pub stood_more : (seen : Bytes) (at : ℕ) (places : List Place) (size : ℕ) → Stood seen at places → Holds (drop at seen) (Entry size)
    → Stood seen (at + framing + size) (places ++ record { at = at + framing; length = size } ∷ [])
stood_more seen at places size stood holds =
    let entry = holds.0 in
    let more = holds.1 in
    let whole : seen ≡ front (stood.entries ++ entry ∷ []) ++ more =
    tail_of seen at stood.entries (open_gate ∷ (framed entry ++ more)) stood.front_is holds.2
    ∙ sym (append_assoc (front stood.entries) (open_gate ∷ framed entry) more)
    ∙ ap (λ (s : Bytes). s ++ more) (sym (front-push stood.entries entry)) in
    let ends : at + framing + size ≡ length (front (stood.entries ++ entry ∷ [])) = omega (arith, stood.ends, holds.3, length-front-push stood.entries entry) in
    record {
      entries = stood.entries ++ entry ∷ [];
      front_is = ap (λ (s : Bytes). take (at + framing + size) s) whole ∙ take_at (front (stood.entries ++ entry ∷ [])) more (at + framing + size) (sym ends);
      ends = ends;
      places_are =
          ap (λ (ps : List Place). ps ++ record { at = at + framing; length = size } ∷ []) stood.places_are
          ∙ ap (λ (k : ℕ). places_of stood.entries ++ record { at = at + framing; length = k } ∷ []) (sym holds.3)
          ∙ sym (places_from-push (length header) stood.entries entry at (omega (arith, stood.ends, length-append header (flat_map (λ e. open_gate ∷ framed e) stood.entries))));
      short = short_push stood.entries entry stood.short (subst (λ (k : ℕ). k < 2 ^ 32) (sym holds.3) holds.4);
    }

pub broken_there : (seen : Bytes) (at : ℕ) (places : List Place) (place : ℕ) → Stood seen at places → HoldsNone at (drop at seen) place → IsBroken seen place
broken_there seen at places place stood (inl nothing) =
    let whole : seen ≡ front stood.entries = tail_of seen at stood.entries [] stood.front_is nothing.1 ∙ append-nil (front stood.entries) in
    inr (stood.entries, record { short = stood.short; stops = inl (whole, omega (arith, nothing.0, stood.ends, ap length whole)) })
broken_there seen at places place stood (inr none) =
    let whole : seen ≡ front stood.entries ++ open_gate ∷ none.1.0 = tail_of seen at stood.entries (open_gate ∷ none.1.0) stood.front_is none.1.1 in
    inr (stood.entries, record { short = stood.short; stops = inr (none.1.0, whole, none.1.2, omega (arith, none.0, stood.ends)) })

-- ---- the entries stand at their places

pub places-push : (entries : List Bytes) (entry : Bytes)
    → places_of (entries ++ entry ∷ []) ≡ places_of entries ++ record { at = length (front entries) + framing; length = length entry } ∷ []
places-push entries entry = places_from-push (length header) entries entry (length (front entries)) (omega (arith, length-append header (flat_map (λ e. open_gate ∷ framed e) entries)))

stand_behind : (earlier later : List Bytes) (at k : ℕ) (place : Place) (entry : Bytes) → at ≡ length (front earlier) → k < length later
    → StandsAt (slice_index_or (places_from at later) k place) (slice_index_or later k entry) (earlier ++ later)
stand_behind earlier [] at k place entry ends within = absurd (omega (arith, within))
stand_behind earlier (e ∷ later) at zero place entry ends within = record { earlier = earlier; later = later; is = refl; at = omega (arith, ends); size = refl }
stand_behind earlier (e ∷ later) at (suc k) place entry ends within =
    subst (λ (es : List Bytes). StandsAt (slice_index_or (places_from (at + framing + length e) later) k place) (slice_index_or later k entry) es)
    (append_assoc earlier (e ∷ []) later)
    (stand_behind (earlier ++ e ∷ []) later (at + framing + length e) k place entry (omega (arith, ends, length-front-push earlier e)) (omega (arith, within)))

pub all_stand : (entries : List Bytes) (k : ℕ) (place : Place) (entry : Bytes) → k < length entries
    → StandsAt (slice_index_or (places_of entries) k place) (slice_index_or entries k entry) entries
all_stand entries k place entry within = stand_behind [] entries (length header) k place entry refl within

pub stands_still : (entries more : List Bytes) (place : Place) (entry : Bytes) → StandsAt place entry entries → StandsAt place entry (entries ++ more)
stands_still entries more place entry stands = record {
  earlier = stands.earlier;
  later = stands.later ++ more;
  is = ap (λ (es : List Bytes). es ++ more) stands.is ∙ append_assoc stands.earlier (entry ∷ stands.later) more;
  at = stands.at;
  size = stands.size;
}
