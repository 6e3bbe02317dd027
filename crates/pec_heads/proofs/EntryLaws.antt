-- The entries of a text, and the `<` of an entry: `entries_from` and `angle_from` and the relations on whole texts.
use Rattle.std.proofs.Common.{◌≡◌, ℕ, ◌+◌, ◌==◌, List, [], ◌∷◌, ◌++◌, Bool, true, false, not, ◌&&◌, cond, ◌⊎◌, inl, inr, length, take, drop, Option, Some, None, refl, ap, sym, ◌∙◌, arith, add-one}
use Rattle.std.proofs.lemmas.Bool.{true≢false, false≢true, true_from_ne_false, ne_eqb, cond_both, eqb-true, and_parts, and_right, or_cases, not-true, not_from_false}
use Rattle.std.proofs.lemmas.List.{append-nil}
use Rattle.std.specs.List.{flat_map, join_with_byte, onto_first}
use Rattle.std.specs.Option.{option_map}
use Rattle.pec_types.specs.Bytes.{is_quote}
use Rattle.pec_heads.specs.Lists.{is_comma, is_phrase_byte, inner_text, piece_text, IsPhrase, IsClosed, IsUnclosed, AreEntries, IsEntries}
use Rattle.pec_heads.specs.ListReading.{is_outside, after, angle_from, entries_from}
use Rattle.pec_heads.specs.declared.quoting.Quoting.{Quoting}
use Rattle.pec_heads.specs.declared.quoting.Quoting.TheVariants.{Outside, Inside, Escaped}
use Rattle.pec_heads.proofs.QuotingLaws.{quote_is, ClosedFrom, OpenFrom, closed_step, open_step, none_closed, at_end, pushed, may_pass, GoesOver, over_quoted, over_pieces}

abbrev pub no_comma : ℕ → Bool
no_comma b = not (is_comma b)

-- ---- entries

abbrev pub EntriesSay : Quoting → List (List ℕ) → Type 0
EntriesSay s [] = ⊥
EntriesSay s (last ∷ []) = ClosedFrom no_comma s last ⊎ OpenFrom s last
EntriesSay s (entry ∷ next ∷ entries) = ClosedFrom no_comma s entry × AreEntries (next ∷ entries)

as_entries : (entries : List (List ℕ)) → EntriesSay Outside entries → AreEntries entries
as_entries [] h = absurd h
as_entries (last ∷ []) h = h
as_entries (entry ∷ next ∷ entries) h = h

-- a comma outside quotes parts here
part_here : (s : Quoting) (entries : List (List ℕ)) → is_outside s ≡ true → EntriesSay Outside entries → EntriesSay s ([] ∷ entries)
part_here s [] e h = absurd h
part_here s (entry ∷ entries) e h = (none_closed no_comma s e, as_entries (entry ∷ entries) h)

-- another byte goes to the first entry
onto_here : (s : Quoting) (b : ℕ) (entries : List (List ℕ)) → (is_outside s ≡ true → is_quote b ≡ false → no_comma b ≡ true) → EntriesSay (after s b) entries → EntriesSay s (onto_first b entries)
onto_here s b [] f h = absurd h
onto_here s b (last ∷ []) f (inl h) = inl (closed_step no_comma s b last f h)
onto_here s b (last ∷ []) f (inr h) = inr (open_step s b last f h)
onto_here s b (entry ∷ next ∷ entries) f h = (closed_step no_comma s b entry f h.0, h.1)

no_comma_here : (s : Quoting) (b : ℕ) → (is_outside s && is_comma b) ≡ false → is_outside s ≡ true → is_quote b ≡ false → no_comma b ≡ true
no_comma_here s b e outside q = let c : is_comma b ≡ false = cc in not_from_false (is_comma b) c

entries_say : (s : Quoting) (text : List ℕ) → EntriesSay s (entries_from s text)
entries_say s [] = at_end s
entries_say s (b ∷ bs) =
    cond_both (is_outside s && is_comma b) ([] ∷ entries_from Outside bs) (onto_first b (entries_from (after s b) bs)) (EntriesSay s)
    (λ t. part_here s (entries_from Outside bs) (and_parts (is_outside s) (is_comma b) t).0 (entries_say Outside bs))
    (λ t. onto_here s b (entries_from (after s b) bs) (no_comma_here s b t) (entries_say (after s b) bs))

join_onto : (b : ℕ) (entries : List (List ℕ)) → join_with_byte 44 (onto_first b entries) ≡ b ∷ join_with_byte 44 entries
join_onto b [] = refl
join_onto b (x ∷ []) = refl
join_onto b (x ∷ y ∷ entries) = refl

join_parted : (s : Quoting) (entries : List (List ℕ)) → EntriesSay s entries → join_with_byte 44 ([] ∷ entries) ≡ 44 ∷ join_with_byte 44 entries
join_parted s [] h = absurd h
join_parted s (x ∷ entries) h = refl

comma_is : (b : ℕ) → is_comma b ≡ true → b ≡ 44
comma_is b e = eqb-true b 44 e

entries_join : (s : Quoting) (text : List ℕ) → join_with_byte 44 (entries_from s text) ≡ text
entries_join s [] = refl
entries_join s (b ∷ bs) =
    cond_both (is_outside s && is_comma b) ([] ∷ entries_from Outside bs) (onto_first b (entries_from (after s b) bs)) (λ es. join_with_byte 44 es ≡ b ∷ bs)
    (λ t. join_parted Outside (entries_from Outside bs) (entries_say Outside bs) ∙ rw (comma_is b (and_parts (is_outside s) (is_comma b) t).1) (ap (λ ys. 44 ∷ ys) (entries_join Outside bs)))
    (λ t. join_onto b (entries_from (after s b) bs) ∙ ap (λ ys. b ∷ ys) (entries_join (after s b) bs))

pub entries_are : (text : List ℕ) → IsEntries text (entries_from Outside text)
entries_are text = record { each = as_entries (entries_from Outside text) (entries_say Outside text); text_is = sym (entries_join Outside text) }

-- ---- and back

no_quote : (b : ℕ) → is_quote b ≡ true → is_comma b ≡ false
no_quote b q = rw (quote_is b q) refl

entry_step : (s : Quoting) (b : ℕ) (bs : List ℕ) → may_pass no_comma s b ≡ true → entries_from s (b ∷ bs) ≡ onto_first b (entries_from (after s b) bs)
entry_step Outside b bs e =
    elim (or_cases (is_quote b) (no_comma b) e) [ inl q ↦ rw (no_quote b q) refl | inr c ↦ rw (not-true (is_comma b) c) refl ]
entry_step Inside b bs e = refl
entry_step Escaped b bs e = refl

goes_over_entries : GoesOver no_comma entries_from onto_first
goes_over_entries = record { step = entry_step }

-- what is pushed stands before the first entry
push_all : (bytes entry : List ℕ) (entries : List (List ℕ)) → pushed onto_first bytes (entry ∷ entries) ≡ (bytes ++ entry) ∷ entries
push_all [] entry entries = refl
push_all (b ∷ bytes) entry entries = ap (onto_first b) (push_all bytes entry entries)

closed_next : (entry rest : List ℕ) → IsClosed entry → entries_from Outside (entry ++ 44 ∷ rest) ≡ entry ∷ entries_from Outside rest
closed_next entry rest h =
    rw h.text (over_pieces no_comma entries_from onto_first goes_over_entries h.pieces (44 ∷ rest) h.each ∙ push_all (flat_map piece_text h.pieces) [] (entries_from Outside rest)
    ∙ rw append-nil refl)

closed_last : (entry : List ℕ) → IsClosed entry → entries_from Outside entry ≡ entry ∷ []
closed_last entry h =
    ap (entries_from Outside) (h.text ∙ sym (append-nil (flat_map piece_text h.pieces)))
    ∙ over_pieces no_comma entries_from onto_first goes_over_entries h.pieces [] h.each
    ∙ push_all (flat_map piece_text h.pieces) [] []
    ∙ ap (λ e. e ∷ []) (append-nil (flat_map piece_text h.pieces) ∙ sym h.text)

tail_entry : (tail : List ℕ) → (tail ≡ []) ⊎ (tail ≡ 92 ∷ []) → entries_from Inside tail ≡ tail ∷ []
tail_entry tail (inl e) = rw e refl
tail_entry tail (inr e) = rw e refl

open_last : (entry : List ℕ) → IsUnclosed entry → entries_from Outside entry ≡ entry ∷ []
open_last entry u =
    let front : List ℕ = flat_map piece_text u.front_is.pieces
    in let inner : List ℕ = flat_map inner_text u.inner
    in let parts : entry ≡ front ++ 34 ∷ (inner ++ u.tail) = u.text ∙ ap (λ f. f ++ 34 ∷ (inner ++ u.tail)) u.front_is.text
    in ap (entries_from Outside) parts
    ∙ over_pieces no_comma entries_from onto_first goes_over_entries u.front_is.pieces (34 ∷ (inner ++ u.tail)) u.front_is.each
    ∙ ap (pushed onto_first front) (over_quoted no_comma entries_from onto_first goes_over_entries u.inner u.tail u.inner_is
    ∙ ap (pushed onto_first (34 ∷ inner)) (tail_entry u.tail u.tail_is) ∙ push_all (34 ∷ inner) u.tail [])
    ∙ push_all front (34 ∷ (inner ++ u.tail)) []
    ∙ ap (λ e. e ∷ []) (sym parts)

entries_again : (entries : List (List ℕ)) → AreEntries entries → entries_from Outside (join_with_byte 44 entries) ≡ entries
entries_again [] h = absurd h
entries_again (last ∷ []) (inl h) = closed_last last h
entries_again (last ∷ []) (inr h) = open_last last h
entries_again (entry ∷ next ∷ entries) h = closed_next entry (join_with_byte 44 (next ∷ entries)) h.0 ∙ ap (λ es. entry ∷ es) (entries_again (next ∷ entries) h.1)

pub only_entries : (text : List ℕ) (entries : List (List ℕ)) → IsEntries text entries → entries ≡ entries_from Outside text
only_entries text entries h = sym (rw h.text_is (entries_again entries h.each))

-- ---- the `<` of an entry

abbrev pub AngleSays : Quoting → List ℕ → Option ℕ → Type 0
AngleSays s entry None = Unit {0}
AngleSays s entry (Some k) = ClosedFrom is_phrase_byte s (take k entry) × (entry ≡ take k entry ++ 60 ∷ drop (k + 1) entry)

angle_later : (s : Quoting) (b : ℕ) (bs : List ℕ) (o : Option ℕ) → (is_outside s ≡ true → is_quote b ≡ false → is_phrase_byte b ≡ true) → AngleSays (after s b) bs o
    → AngleSays s (b ∷ bs) (option_map (λ k. k + 1) o)
angle_later s b bs None f h = tt
angle_later s b bs (Some k) f h = rw (add-one (k + 1), add-one k) (closed_step is_phrase_byte s b (take k bs) f h.0, ap (λ ys. b ∷ ys) (rw (add-one k) at h.1))

phrase_here : (s : Quoting) (b : ℕ) → (is_outside s && not (is_quote b) && not (is_phrase_byte b)) ≡ false → is_outside s ≡ true → is_quote b ≡ false → is_phrase_byte b ≡ true
phrase_here s b e outside q =
    true_from_ne_false (is_phrase_byte b) (λ f. let h : true ≡ false = rw (outside, q, f) at e in true≢false h)

angle_here : (s : Quoting) (b : ℕ) (bs : List ℕ) → (is_outside s && b == 60) ≡ true → AngleSays s (b ∷ bs) (Some 0)
angle_here s b bs t =
    let h = and_parts (is_outside s) (b == 60) t
    in (none_closed is_phrase_byte s h.0, rw (eqb-true b 60 h.1) refl)

pub angle_says : (s : Quoting) (entry : List ℕ) → AngleSays s entry (angle_from s entry)
angle_says s [] = tt
angle_says s (b ∷ bs) =
    let later : Option ℕ = option_map (λ k. k + 1) (angle_from (after s b) bs)
    in cond_both (is_outside s && b == 60) (Some 0) (cond (is_outside s && not (is_quote b) && not (is_phrase_byte b)) None later) (AngleSays s (b ∷ bs))
    (λ t. angle_here s b bs t)
    (λ t. cond_both (is_outside s && not (is_quote b) && not (is_phrase_byte b)) None later (AngleSays s (b ∷ bs))
    (λ u. tt)
    (λ u. angle_later s b bs (angle_from (after s b) bs) (phrase_here s b u) (angle_says (after s b) bs)))

not_angle : (b : ℕ) → is_phrase_byte b ≡ true → b ≡ 60 → ⊥
unfolding is_phrase_byte
not_angle b p e = let h : false ≡ true = rw e at p in false≢true h

no_angle : (b : ℕ) → is_phrase_byte b ≡ true → (b == 60) ≡ false
no_angle b p = ne_eqb b 60 (not_angle b p)

angle_step : (s : Quoting) (b : ℕ) (bs : List ℕ) → may_pass is_phrase_byte s b ≡ true → angle_from s (b ∷ bs) ≡ option_map (λ k. k + 1) (angle_from (after s b) bs)
angle_step Outside b bs e =
    elim (or_cases (is_quote b) (is_phrase_byte b) e) [ inl q ↦ rw (quote_is b q) refl | inr p ↦ rw (no_angle b p, p, and_right (not (is_quote b)) false refl) refl ]
angle_step Inside b bs e = refl
angle_step Escaped b bs e = refl

goes_over_angle : GoesOver is_phrase_byte angle_from (λ b o. option_map (λ k. k + 1) o)
goes_over_angle = record { step = angle_step }

count_all : (bytes : List ℕ) (k : ℕ) → pushed (λ b o. option_map (λ n. n + 1) o) bytes (Some k) ≡ Some (length bytes + k)
count_all [] k = ap Some (omega arith)
count_all (b ∷ bytes) k = ap (option_map (λ n. n + 1)) (count_all bytes k) ∙ ap Some (omega arith)

pub angle_again : (phrase rest : List ℕ) → IsPhrase phrase → angle_from Outside (phrase ++ 60 ∷ rest) ≡ Some (length phrase)
angle_again phrase rest h =
    rw h.text (over_pieces is_phrase_byte angle_from (λ b o. option_map (λ k. k + 1) o) goes_over_angle h.pieces (60 ∷ rest) h.each
    ∙ count_all (flat_map piece_text h.pieces) 0 ∙ ap Some (omega arith))
