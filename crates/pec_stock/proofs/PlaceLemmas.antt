-- Where a journal ends, and where the bytes of one entry more stand.
use Rattle.std.proofs.Common.{◌≡◌, ℕ, ◌+◌, ◌<◌, List, [], ◌∷◌, ◌++◌, ◌∙◌, length, map, fold, get_or, None, refl, sym, ap, arith, length-append}
use Rattle.std.specs.List.{flat_map}
use Rattle.std.specs.Int.{w32, to_be_bytes}
use Rattle.std.specs.Prelude.{slice_get}
use Rattle.std.proofs.lemmas.List.{length-map, map-append}
use Rattle.std.proofs.lemmas.Option.{none-some, slice_get-get_or}
use Rattle.pec_types.specs.Bytes.{Bytes}
use Rattle.pec_types.specs.declared.places.Place.{Place}
use Rattle.pec_journal.specs.JournalFile.{framed, framing, front, header, open_gate, places_from, places_of}
use Rattle.pec_records.specs.Entry.{entry_text}
use Rattle.pec_records.specs.declared.entries.Entry.{Entry}
use Rattle.pec_ledger.specs.Half.{Half, empty}
use Rattle.pec_ledger.specs.Steps.{half, size_of, step}
use Rattle.pec_ledger.specs.Trade.{Trade}
use Rattle.pec_chronicle.specs.Carrying.{with_entry}

-- ---- where a journal ends

behind_gates : List Bytes → List ℕ
behind_gates texts = flat_map (λ (text : Bytes). open_gate ∷ framed text) texts

end_from : (trade : Trade) (me : ℕ) (from : Half) (list : List Entry)
    → (fold (step trade me) from list).end ≡ from.end + length (behind_gates (map entry_text list))
unfolding behind_gates step size_of
end_from trade me from [] = omega arith
end_from trade me from (e ∷ es) =
    let rest : (fold (step trade me) (step trade me from e) es).end
    ≡ (from.end + (5 + length (entry_text e))) + length (flat_map (λ (text : Bytes). open_gate ∷ framed text) (map entry_text es)) =
    end_from trade me (step trade me from e) es in
    let parts = length-append (to_be_bytes w32 (length (entry_text e))) (entry_text e) in
    let all = length-append (framed (entry_text e)) (flat_map (λ (text : Bytes). open_gate ∷ framed text) (map entry_text es)) in
    omega (arith, rest, parts, all)

-- it ends where its half says
pub end_is : (trade : Trade) (me : ℕ) (list : List Entry) → (half trade me list).end ≡ length (front (map entry_text list))
unfolding half behind_gates
end_is trade me list = end_from trade me empty list ∙ sym (length-append header (flat_map (λ (text : Bytes). open_gate ∷ framed text) (map entry_text list)))

-- ---- the place of one entry more

abbrev pub place_of : ℕ → ℕ → Place
place_of end size = record { at = end + 5; length = size }

abbrev pub place_at : ℕ → Bytes → Place
place_at end text = place_of end (length text)

-- the law of pec_journal
abbrev pub PlacesGoOn : Type 0
PlacesGoOn = (texts : List Bytes) (text : Bytes) → places_of (texts ++ text ∷ []) ≡ places_of texts ++ place_at (length (front texts)) text ∷ []

-- it is where the journal ends
pub place_push : PlacesGoOn → (list : List Entry) (entry : Entry) (end : ℕ) (place : Place) → end ≡ length (front (map entry_text list))
    → place ≡ place_at end (entry_text entry)
    → places_of (map entry_text (with_entry list entry)) ≡ places_of (map entry_text list) ++ place ∷ []
place_push go_on list entry end place ends is =
    let text = entry_text entry in
    ap places_of (map-append entry_text list (entry ∷ []))
    ∙ go_on (map entry_text list) text
    ∙ ap (λ (n : ℕ). places_of (map entry_text list) ++ place_at n text ∷ []) (sym ends)
    ∙ ap (λ (p : Place). places_of (map entry_text list) ++ p ∷ []) (sym is)

-- ---- all places

places_length : (at : ℕ) (texts : List Bytes) → length (places_from at texts) ≡ length texts
places_length at [] = refl
places_length at (text ∷ texts) = omega (arith, places_length (at + framing + length text) texts)

pub as_many_places : (texts : List Bytes) → length (places_of texts) ≡ length texts
as_many_places texts = places_length (length header) texts

-- each entry has one
pub place_there : (list : List Entry) (places : List Place) (number : ℕ) → places ≡ places_of (map entry_text list) → number < length list
    → slice_get places number ≡ None → ⊥
place_there list places number are within none =
    let nowhere : Place = record { at = 0; length = 0 } in
    let there : number < length places =
    omega (arith, ap length are, as_many_places (map entry_text list), length-map list entry_text, within) in
    none-some (get_or places number nowhere) (sym none ∙ slice_get-get_or places number nowhere there)
