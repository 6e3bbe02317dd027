-- An entry alone: what `entry_of` gives is so, and what is so it gives.
use Rattle.std.proofs.Common.{◌≡◌, ℕ, ◌+◌, ◌-◌, ◌<◌, ◌==◌, List, [], ◌∷◌, ◌++◌, Bool, true, false, not, cond, MatchBool, length, take, drop, Option, Some, None, Result, Ok, Err, refl, ap, sym, ◌∙◌, arith, append_assoc, length-append}
use Rattle.std.proofs.Math.Seq.{take-append_seam, get_or-append_seam, take-length, drop-append-add}
use Rattle.std.proofs.lemmas.Bool.{cond_both, both_ways, eqb-true, and_parts, and_right, not-true, not-false}
use Rattle.std.proofs.lemmas.List.{take_more}
use Rattle.std.specs.List.{list_all, position, slice_index}
use Rattle.std.specs.Option.{option_and_then}
use Rattle.pec_types.specs.Address.{lowered}
use Rattle.pec_types.specs.AddressReading.{address_of}
use Rattle.pec_types.specs.declared.addresses.AddressFault.{AddressFault}
use Rattle.pec_heads.specs.Bytes.{is_blank, AreBlanks, FirstOf, NonePass, ends_blank, cut_blanks, trimmed}
use Rattle.pec_heads.specs.Lists.{is_ink, is_all_blank, has_mark, IsPhrase, IsAngled, IsBare, IsEntry, EntryFault}
use Rattle.pec_heads.specs.ListReading.{angle_from, before_close, inside_of, bare_of, or_syntax, angled_of, entry_of}
use Rattle.pec_heads.specs.declared.faults.ListFault.{ListFault}
use Rattle.pec_heads.specs.declared.faults.ListFault.TheVariants.{Syntax, BadAddress, Empty, NoMemory}
use Rattle.pec_heads.specs.declared.quoting.Quoting.TheVariants.{Outside}
use Rattle.pec_heads.proofs.Places.{first_of, none_of, place_again}
use Rattle.pec_heads.proofs.BlankLemmas.{cut_is, cut_right}
use Rattle.pec_heads.proofs.EntryLaws.{AngleSays, angle_says, angle_again}
use Rattle.pec_heads.proofs.AddressFacts.{AddressSays, AddressesTold, answered, each_fault, only_address}

-- ---- `>` at the end

close_last : (text : List ℕ) (n : ℕ) → length text ≡ n + 1 → slice_index text n ≡ 62 → text ≡ take n text ++ 62 ∷ []
close_last text n e f =
    let h : n < length text = omega arith
    in sym (take-length text) ∙ rw (e, take_more text n 0 h, f) refl

none_zero : (n : ℕ) → (n == 62) ≡ true → n ≡ 0 → ⊥
none_zero n e f = let g : n ≡ 62 = eqb-true n 62 e in omega arith

close_some : (text inside : List ℕ) (t : Bool) → (slice_index text (length text - 1) == 62) ≡ t → cond t (Some (take (length text - 1) text)) None ≡ Some inside → text ≡ inside ++ 62 ∷ []
close_some text inside false e f = absurd cc
close_some [] inside true e f = absurd cc
close_some (b ∷ bs) inside true e f =
    let n : length (b ∷ bs) ≡ length (b ∷ bs) - 1 + 1 = omega arith
    in let g : take (length (b ∷ bs) - 1) (b ∷ bs) ≡ inside = cc
    in close_last (b ∷ bs) (length (b ∷ bs) - 1) n (eqb-true _ 62 e) ∙ ap (λ xs. xs ++ 62 ∷ []) g

close_says : (text inside : List ℕ) → before_close text ≡ Some inside → text ≡ inside ++ 62 ∷ []
unfolding before_close
close_says text inside e = close_some text inside (slice_index text (length text - 1) == 62) refl e

last_place : (n : ℕ) → n + 1 - 1 ≡ n
last_place n = omega arith

close_again : (inside : List ℕ) → before_close (inside ++ 62 ∷ []) ≡ Some inside
unfolding before_close
close_again inside = rw (length-append inside (62 ∷ []), last_place (length inside), get_or-append_seam inside 62 [] 0, take-append_seam) refl

ends_close : (xs : List ℕ) → ends_blank (xs ++ 62 ∷ []) ≡ false
ends_close [] = refl
ends_close (x ∷ []) = refl
ends_close (x ∷ y ∷ xs) = ends_close (y ∷ xs)

cut_close : (inside tail : List ℕ) → AreBlanks tail → cut_blanks (inside ++ 62 ∷ tail) ≡ inside ++ 62 ∷ []
cut_close inside tail h = ap cut_blanks (sym (append_assoc inside (62 ∷ []) tail)) ∙ cut_right (inside ++ 62 ∷ []) tail h (ends_close inside)

-- ---- what stands in `<` and `>`

pub record IsInside (entry inside : List ℕ) : Type 0 where
  pub phrase : List ℕ
  pub tail : List ℕ
  pub phrase_is : IsPhrase phrase
  pub tail_is : AreBlanks tail
  pub parts : entry ≡ phrase ++ 60 ∷ (inside ++ 62 ∷ tail)

inside_at : (entry inside : List ℕ) (o : Option ℕ) → AngleSays Outside entry o → option_and_then (λ at. before_close (cut_blanks (drop (at + 1) entry))) o ≡ Some inside → IsInside entry inside
inside_at entry inside None h e = absurd cc
inside_at entry inside (Some k) h e =
    let c = cut_is (drop (k + 1) entry)
    in let f = close_says (cut_blanks (drop (k + 1) entry)) inside e
    in record {
      phrase = take k entry;
      tail = c.right;
      phrase_is = h.0;
      tail_is = c.blank;
      parts = h.1 ∙ ap (λ xs. take k entry ++ 60 ∷ xs) (c.parts ∙ ap (λ xs. xs ++ c.right) f ∙ append_assoc inside (62 ∷ []) c.right);
    }

inside_says : (entry inside : List ℕ) → inside_of entry ≡ Some inside → IsInside entry inside
unfolding inside_of
inside_says entry inside e = inside_at entry inside (angle_from Outside entry) (angle_says Outside entry) e

inside_again : (entry inside : List ℕ) → IsInside entry inside → inside_of entry ≡ Some inside
unfolding inside_of
inside_again entry inside h =
    rw (h.parts, angle_again h.phrase (inside ++ 62 ∷ h.tail) h.phrase_is, drop-append-add h.phrase (60 ∷ (inside ++ 62 ∷ h.tail)) 1)
    (ap before_close (cut_close inside h.tail h.tail_is) ∙ close_again inside)

inside_of_angled : (entry address : List ℕ) → (a : IsAngled entry address) → inside_of entry ≡ Some a.inside
inside_of_angled entry address a = inside_again entry a.inside (record { phrase = a.phrase; tail = a.tail; phrase_is = a.phrase_is; tail_is = a.tail_is; parts = a.parts })

-- ---- from the function to the relation

abbrev pub EntrySays : ℕ → List ℕ → Result (List ℕ) ListFault → Type 0
EntrySays place entry (Ok address) = IsEntry entry address
EntrySays place entry (Err fault) = EntryFault place entry fault

bare_says : (place at : ℕ) (entry front : List ℕ) → has_mark entry ≡ false → FirstOf is_ink entry front → at ≡ length front
    → (r : Result (List ℕ) AddressFault) → AddressSays (trimmed entry) r → EntrySays place entry (bare_of (place + at) r)
bare_says place at entry front e first f (Ok address) h = rw e (record { address_is = h.0; lower = h.1 })
bare_says place at entry front e first f (Err fault) h = (e, h, (front, (first, ap (λ k. place + k) f)))

angled_ok : (entry inside address : List ℕ) → IsInside entry inside → AddressSays (trimmed inside) (Ok address) → IsAngled entry address
angled_ok entry inside address i h = record {
  phrase = i.phrase;
  inside = inside;
  tail = i.tail;
  phrase_is = i.phrase_is;
  tail_is = i.tail_is;
  parts = i.parts;
  address_is = h.0;
  lower = h.1;
}

ok_no_err : (text address : List ℕ) (fault : AddressFault) → address_of text ≡ Ok address → address_of text ≡ Err fault → ⊥
ok_no_err text address fault e f = absurd cc

none_no_some : (entry inside : List ℕ) → inside_of entry ≡ None → inside_of entry ≡ Some inside → ⊥
none_no_some entry inside e f = absurd cc

same_inside : (entry inside other : List ℕ) → inside_of entry ≡ Some inside → inside_of entry ≡ Some other → other ≡ inside
same_inside entry inside other e f = cc

-- what the law of addresses says
module _ (told : AddressesTold) where
  angled_read : (place : ℕ) (entry inside : List ℕ) → has_mark entry ≡ true → inside_of entry ≡ Some inside → (r : Result (List ℕ) AddressFault) → address_of (trimmed inside) ≡ r
      → AddressSays (trimmed inside) r → EntrySays place entry (or_syntax place r)
  angled_read place entry inside e f (Ok address) g h = rw e (angled_ok entry inside address (inside_says entry inside f) h)
  angled_read place entry inside e f (Err fault) g h = (
    e,
    λ address a.
        let s : a.inside ≡ inside = same_inside entry inside a.inside f (inside_of_angled entry address a)
        in ok_no_err (trimmed inside) (lowered (trimmed inside)) fault (only_address told (trimmed inside) (rw s at a.address_is)) g,
    refl,
  )

  angled_says : (place : ℕ) (entry : List ℕ) → has_mark entry ≡ true → (o : Option (List ℕ)) → inside_of entry ≡ o → EntrySays place entry (angled_of place o)
  angled_says place entry e None f = (e, (λ address a. none_no_some entry a.inside f (inside_of_angled entry address a)), refl)
  angled_says place entry e (Some inside) f = angled_read place entry inside e f (address_of (trimmed inside)) refl (answered told (trimmed inside))

  pub entry_says : (place at : ℕ) (entry : List ℕ) → position is_ink entry ≡ Some at → EntrySays place entry (entry_of place at entry)
  unfolding entry_of
  entry_says place at entry e =
      let f = first_of is_ink entry at e
      in cond_both (has_mark entry) (angled_of place (inside_of entry)) (bare_of (place + at) (address_of (trimmed entry))) (EntrySays place entry)
      (λ t. angled_says place entry t (inside_of entry) refl)
      (λ t. bare_says place at entry f.0 t f.1.0 f.1.1 (address_of (trimmed entry)) (answered told (trimmed entry)))

  -- ---- and back

  entry_case : (place at : ℕ) (entry address : List ℕ) (t : Bool) → has_mark entry ≡ t → MatchBool t (IsAngled entry address) (IsBare entry address)
      → cond t (angled_of place (inside_of entry)) (bare_of (place + at) (address_of (trimmed entry))) ≡ Ok address
  entry_case place at entry address true e a = rw (inside_of_angled entry address a, only_address told (trimmed a.inside) a.address_is, a.lower) refl
  entry_case place at entry address false e b = rw (only_address told (trimmed entry) b.address_is, b.lower) refl

  pub entry_again : (place at : ℕ) (entry address : List ℕ) → IsEntry entry address → entry_of place at entry ≡ Ok address
  unfolding entry_of
  entry_again place at entry address h = entry_case place at entry address (has_mark entry) refl h

  syntax_only : (place : ℕ) (entry : List ℕ) (r : Result (List ℕ) ListFault) → EntrySays place entry r → has_mark entry ≡ true → ((address : List ℕ) → IsAngled entry address → ⊥) → r ≡ Err (Syntax place)
  syntax_only place entry (Ok address) h e n = absurd (n address (rw e at h))
  syntax_only place entry (Err (Syntax p)) h e n = ap (λ k. Err (Syntax k)) h.2
  syntax_only place entry (Err (BadAddress p f)) h e n = absurd (both_ways (has_mark entry) h.0 e)
  syntax_only place entry (Err Empty) h e n = absurd h
  syntax_only place entry (Err NoMemory) h e n = absurd h

  same_place : (at k : ℕ) (entry : List ℕ) → position is_ink entry ≡ Some at → position is_ink entry ≡ Some k → at ≡ k
  same_place at k entry e f = cc

  bad_again : (place at p : ℕ) (entry : List ℕ) (fault : AddressFault) → position is_ink entry ≡ Some at → EntryFault place entry (BadAddress p fault) → entry_of place at entry ≡ Err (BadAddress p fault)
  unfolding entry_of
  bad_again place at p entry fault e h =
      let s : at ≡ length h.2.0 = same_place at (length h.2.0) entry e (place_again is_ink entry h.2.0 h.2.1.0)
      in rw (h.0, each_fault told (trimmed entry) fault h.1, h.2.1.1, s) refl

  pub entry_fault_again : (place at : ℕ) (entry : List ℕ) (fault : ListFault) → position is_ink entry ≡ Some at → EntryFault place entry fault → entry_of place at entry ≡ Err fault
  entry_fault_again place at entry (Syntax p) e h =
      syntax_only place entry (entry_of place at entry) (entry_says place at entry e) h.0 h.1 ∙ ap (λ k. Err (Syntax k)) (sym h.2)
  entry_fault_again place at entry (BadAddress p fault) e h = bad_again place at p entry fault e h
  entry_fault_again place at entry Empty e h = absurd h
  entry_fault_again place at entry NoMemory e h = absurd h

-- ---- blank entries

all_blank : (entry : List ℕ) → NonePass is_ink entry → is_all_blank entry ≡ true
all_blank [] h = refl
all_blank (b ∷ bs) h =
    let p = and_parts (not (is_ink b)) (list_all (λ x. not (is_ink x)) bs) h
    in rw (not-false (is_blank b) (not-true (is_ink b) p.0), all_blank bs p.1) refl

pub some_ink : (front back : List ℕ) (b : ℕ) → is_ink b ≡ true → is_all_blank (front ++ b ∷ back) ≡ false
some_ink [] back b e = rw (not-true (is_blank b) e) refl
some_ink (c ∷ front) back b e = and_right (is_blank c) (is_all_blank (front ++ b ∷ back)) (some_ink front back b e)

pub blank_none : (entry : List ℕ) → position is_ink entry ≡ None → is_all_blank entry ≡ true
blank_none entry e = all_blank entry (none_of is_ink entry e)

pub blank_some : (entry : List ℕ) (at : ℕ) → position is_ink entry ≡ Some at → is_all_blank entry ≡ false
blank_some entry at e = let f = first_of is_ink entry at e in rw f.1.0.parts (some_ink f.0 f.1.0.back f.1.0.byte f.1.0.passes)
