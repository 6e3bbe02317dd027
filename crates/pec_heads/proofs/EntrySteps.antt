-- The entries of a text, one after another, and the values of a name joined by commas.
use Rattle.std.proofs.Common.{◌≡◌, ◌≢◌, ℕ, ◌+◌, ◌-◌, ◌<◌, ◌≤◌, List, [], ◌∷◌, ◌++◌, false, ◌&&◌, length, map, take, drop, Option, Some, None, Result, Ok, Err, refl, ap, sym, ◌∙◌, arith, add-one, append_assoc, length-append, length-drop}
use Rattle.std.proofs.lemmas.Bool.{cond_both, le-leb, lt-leb}
use Rattle.std.proofs.Math.Seq.{take-append_seam, drop-drop}
use Rattle.std.proofs.lemmas.List.{append-nil, length-take-le}
use Rattle.std.specs.List.{flat_map, join_with_byte, onto_first, position}
use Rattle.std.specs.Option.{option_map}
use Rattle.pec_heads.specs.Lists.{is_comma, is_ink}
use Rattle.pec_heads.specs.ListReading.{is_outside, after, comma_from, before_comma, entries_from, entries_at, list_from, with_entry, with_comma}
use Rattle.pec_heads.specs.declared.faults.ListFault.{ListFault}
use Rattle.pec_heads.specs.declared.faults.ListFault.TheVariants.{NoMemory}
use Rattle.pec_heads.specs.declared.quoting.Quoting.{Quoting}
use Rattle.pec_heads.specs.declared.quoting.Quoting.TheVariants.{Outside}
use Rattle.pec_heads.specs.Heads.{cut, values_of}
use Rattle.pec_heads.specs.Views.{fields_at}
use Rattle.pec_heads.specs.declared.fields.Start.{Start}

-- ---- the first entry

abbrev CutSays : Quoting → List ℕ → Option ℕ → Type 0
CutSays q text None = entries_from q text ≡ text ∷ []
CutSays q text (Some k) = (k < length text) × (entries_from q text ≡ take k text ∷ entries_from Outside (drop (k + 1) text))

cut_later : (q : Quoting) (b : ℕ) (bs : List ℕ) (o : Option ℕ) → (is_outside q && is_comma b) ≡ false → CutSays (after q b) bs o → CutSays q (b ∷ bs) (option_map (λ k. k + 1) o)
cut_later q b bs None e h = rw e (ap (onto_first b) h)
cut_later q b bs (Some k) e h = (omega (arith, h.0), rw (e, h.1, add-one (k + 1), add-one k) refl)

cut_says : (q : Quoting) (text : List ℕ) → CutSays q text (comma_from q text)
cut_says q [] = refl
cut_says q (b ∷ bs) =
    cond_both (is_outside q && is_comma b) (Some 0) (option_map (λ k. k + 1) (comma_from (after q b) bs)) (CutSays q (b ∷ bs))
    (λ t. (omega arith, rw t refl))
    (λ t. cut_later q b bs (comma_from (after q b) bs) t (cut_says (after q b) bs))

abbrev pub first_of_text : List ℕ → List ℕ
first_of_text text = before_comma text (comma_from Outside text)

first_length : (text : List ℕ) (o : Option ℕ) → CutSays Outside text o → length (before_comma text o) ≤ length text
first_length text None h = omega arith
first_length text (Some k) h = rw (length-take-le k text (omega (arith, h.0))) (omega (arith, h.0))

pub entry_within : (text : List ℕ) → length (first_of_text text) ≤ length text
entry_within text = first_length text (comma_from Outside text) (cut_says Outside text)

-- what is behind the first entry and its comma
rest_is : (place : ℕ) (text : List ℕ) (o : Option ℕ) → place ≤ length text → CutSays Outside (drop place text) o
    → entries_from Outside (drop place text) ≡ before_comma (drop place text) o ∷ entries_at (place + (length (before_comma (drop place text) o) + 1)) text
rest_is place text None within h =
    h ∙ rw (lt-leb (place + (length (drop place text) + 1)) (length text) (omega (arith, length-drop place text))) refl
rest_is place text (Some k) within h =
    let e = length-drop place text
    in let f : length (take k (drop place text)) ≡ k = length-take-le k (drop place text) (omega (arith, h.0))
    in h.1 ∙ rw (f, le-leb (place + (k + 1)) (length text) (omega (arith, h.0)), drop-drop (k + 1) place text) refl

pub entries_first : (place : ℕ) (text : List ℕ) → place ≤ length text
    → entries_at place text ≡ first_of_text (drop place text) ∷ entries_at (place + (length (first_of_text (drop place text)) + 1)) text
entries_first place text within =
    rw (le-leb place (length text) within) (rest_is place text (comma_from Outside (drop place text)) within (cut_says Outside (drop place text)))

-- ---- one turn of reading

abbrev pub turn : List (List ℕ) → ℕ → List ℕ → Result (List (List ℕ)) ListFault
turn addresses place entry = with_entry addresses place entry (position is_ink entry)

pub turn_ok : (addresses more : List (List ℕ)) (place : ℕ) (text entry : List ℕ) → place ≤ length text → entry ≡ first_of_text (drop place text)
    → turn addresses place entry ≡ Ok more
    → list_from more (place + (length entry + 1)) (entries_at (place + (length entry + 1)) text) ≡ list_from addresses place (entries_at place text)
turn_ok addresses more place text entry within e t = sym (rw (entries_first place text within, ← e, t) refl)

turn_fault : (addresses : List (List ℕ)) (place : ℕ) (text entry : List ℕ) (fault : ListFault) → place ≤ length text → entry ≡ first_of_text (drop place text)
    → turn addresses place entry ≡ Err fault → list_from addresses place (entries_at place text) ≡ Err fault
turn_fault addresses place text entry fault within e t = rw (entries_first place text within, ← e, t) refl

pub turn_err : (addresses : List (List ℕ)) (place : ℕ) (text entry : List ℕ) (fault : ListFault) → place ≤ length text → entry ≡ first_of_text (drop place text)
    → (fault ≢ NoMemory → turn addresses place entry ≡ Err fault) → fault ≢ NoMemory → list_from addresses place (entries_at place text) ≡ Err fault
turn_err addresses place text entry fault within e t stays = turn_fault addresses place text entry fault within e (t stays)

-- ---- joined values

comma_last : (vs : List (List ℕ)) (v : List ℕ) → flat_map with_comma (v ∷ vs) ≡ join_with_byte 44 (v ∷ vs) ++ 44 ∷ []
comma_last [] v = rw append-nil refl
comma_last (w ∷ vs) v = rw (comma_last vs w, append_assoc, append_assoc) refl

front_of : (xs : List ℕ) (b : ℕ) → take (length (xs ++ b ∷ []) - 1) (xs ++ b ∷ []) ≡ xs
front_of xs b = let e : length (xs ++ b ∷ []) - 1 ≡ length xs = omega (arith, length-append xs (b ∷ [])) in rw (e, take-append_seam) refl

pub joined_is : (vs : List (List ℕ)) → take (length (flat_map with_comma vs) - 1) (flat_map with_comma vs) ≡ join_with_byte 44 vs
joined_is [] = refl
joined_is (v ∷ vs) = rw (comma_last vs v) (front_of (join_with_byte 44 (v ∷ vs)) 44)

pub all_joined : (bytes : List ℕ) (rest : List Start) (name before popped : List ℕ) (len : ℕ) (vs : List (List ℕ)) → length rest < 1
    → before ++ flat_map with_comma (values_of name (map cut (fields_at bytes rest))) ≡ flat_map with_comma vs
    → len ≡ length before → popped ≡ take (len - 1) before → popped ≡ join_with_byte 44 vs
all_joined bytes [] name before popped len vs end all size e = rw (e, size, sym (append-nil before) ∙ all) (joined_is vs)
all_joined bytes (s ∷ rest) name before popped len vs end all size e = absurd (omega arith)
