-- Rows of one number, gone through from the last one back.
use Rattle.std.proofs.Common.{◌≡◌, ℕ, zero, suc, ◌<◌, ◌==◌, Bool, true, false, cond, List, [], ◌∷◌, ◌++◌, length, map, take, get_or, find, refl, sym, ap, subst, ◌∙◌, arith, Option, Some, None, slice_get, slice_index, add-one}
use Rattle.std.specs.Option.{option_and_then, option_map, option_or}
use Rattle.std.proofs.lemmas.Bool.{cases_Bool}
use Rattle.std.proofs.lemmas.Bool.Decides.{nat_tests}
use Rattle.std.proofs.lemmas.List.{length-take-le, take_more, take-map, get_or-take}
use Rattle.std.proofs.lemmas.List.Folds.{find-append}
use Rattle.std.proofs.lemmas.Option.{slice_get-get_or}
use Rattle.pec_places.specs.Places.{last_place}
use mathlib.Core.Logic.{⊎_elim}

-- how many rows are left up to a place
abbrev pub left : Option ℕ → ℕ
left None = 0
left (Some place) = suc place

-- what is sought stands at the place or before it, and its number stands there
record Next {R : Type 0} (number : R → ℕ) (passes : R → Bool) (sought : ℕ) (rows : List R) (next : Option ℕ) : Type 0 where
  pub found : find passes rows ≡ find passes (take (left next) rows)
  pub at : (place : ℕ) → next ≡ Some place → (place < length rows) × (slice_index (map number rows) place ≡ sought)

same_number : (a b : ℕ) → (a == b) ≡ true → b ≡ a
same_number a b e = grind (arith, nat_tests)

other_number : (a b : ℕ) → b ≡ a → (a == b) ≡ false → ⊥
other_number a b e f = grind (arith, nat_tests)

same_some : {X : Type 0} (x y : X) → Some x ≡ Some y → x ≡ y
same_some x y e = cc

none_some : {X Y : Type 0} (x : X) → None ≡ Some x → Y
none_some x e = cc

fails : {R : Type 0} (number : R → ℕ) (passes : R → Bool) (sought : ℕ) (r : R) → (passes r ≡ true → number r ≡ sought) → (sought == number r) ≡ false → passes r ≡ false
fails number passes sought r agrees other =
    ⊎_elim (λ yes. absurd (other_number sought (number r) (agrees yes) other)) (λ no. no) (cases_Bool (passes r))

next_step : {R : Type 0} (number : R → ℕ) (passes : R → Bool) (sought : ℕ) (r : R) (rs : List R) → (passes r ≡ true → number r ≡ sought)
    → (next : Option ℕ) → Next number passes sought rs next → (same : Bool) → (sought == number r) ≡ same
    → Next number passes sought (r ∷ rs) (option_or (option_map suc next) (cond same (Some 0) None))
next_step number passes sought r rs agrees (Some q) so same e = record {
  found = ap (cond (passes r) (Some r)) so.found;
  at = λ place is.
      let here = so.at q refl in
      let there = same_some (suc q) place is in
      subst (λ k. (k < length (r ∷ rs)) × (slice_index (map number (r ∷ rs)) k ≡ sought)) there (omega (arith, here.0), here.1);
}
next_step number passes sought r rs agrees None so true e = record {
  found = ap (cond (passes r) (Some r)) so.found;
  at = λ place is. subst (λ k. (k < length (r ∷ rs)) × (slice_index (map number (r ∷ rs)) k ≡ sought)) (same_some 0 place is) (omega arith, same_number sought (number r) e);
}
next_step number passes sought r rs agrees None so false e = record {
  found = rw (fails number passes sought r agrees e) so.found;
  at = λ place is. none_some place is;
}

next_of : {R : Type 0} (number : R → ℕ) (passes : R → Bool) (sought : ℕ) → ((r : R) → passes r ≡ true → number r ≡ sought)
    → (rows : List R) → Next number passes sought rows (last_place sought (map number rows))
next_of number passes sought agrees [] = record { found = refl; at = λ place is. none_some place is }
next_of number passes sought agrees (r ∷ rs) =
    next_step number passes sought r rs (agrees r) _ (next_of number passes sought agrees rs) (sought == number r) refl

-- the walk goes on from a place to the one before
pub record Goes {R : Type 0} (number : R → ℕ) (passes : R → Bool) (sought : ℕ) (rows : List R) (next : Option ℕ) (behind : Option R) (place : ℕ) : Type 0 where
  pub found : find passes rows ≡ option_or (find passes (take (left next) rows)) behind
  pub at : (q : ℕ) → next ≡ Some q → (q < length rows) × (slice_index (map number rows) q ≡ sought)
  pub less : left next < suc place

kept_found : {R : Type 0} (passes : R → Bool) (a : Option R) (x : R) (found : Option R)
    → option_or (option_or a (find passes (x ∷ []))) found ≡ option_or a (cond (passes x) (Some x) found)
kept_found passes None x found = by (passes x)
  where
    by : (b : Bool) → option_or (cond b (Some x) None) found ≡ cond b (Some x) found
    by true = refl
    by false = refl
kept_found passes (Some y) x found = refl

shorter : {R : Type 0} (k n : ℕ) (rows : List R) → k < suc n → take k (take n rows) ≡ take k rows
shorter zero n rows l = refl
shorter (suc k) zero rows l = absurd (omega arith)
shorter (suc k) (suc n) [] l = refl
shorter (suc k) (suc n) (r ∷ rows) l = ap (λ xs. r ∷ xs) (shorter k n rows (omega arith))

left_of : (next : Option ℕ) (place : ℕ) → ((q : ℕ) → next ≡ Some q → q < place) → left next < suc place
left_of None place below = omega arith
left_of (Some q) place below = omega (arith, below q refl)

goes_on : {R : Type 0} (number : R → ℕ) (passes : R → Bool) (sought : ℕ) → ((r : R) → passes r ≡ true → number r ≡ sought)
    → (rows : List R) (place : ℕ) (x : R) (old new : Option R) (next : Option ℕ) → place < length rows → x ≡ get_or rows place x
    → find passes rows ≡ option_or (find passes (take (suc place) rows)) old → new ≡ cond (passes x) (Some x) old
    → next ≡ last_place sought (take place (map number rows)) → Goes number passes sought rows next new place
goes_on number passes sought agrees rows place x old new next l is h n e =
    let so = subst (λ (o : Option ℕ). Next number passes sought (take place rows) o) (sym (e ∙ ap (last_place sought) (take-map number place rows))) (next_of number passes sought agrees (take place rows)) in
    let long : length (take place rows) ≡ place = length-take-le place rows (omega (arith, l)) in
    let less = left_of next place (λ q s. omega (arith, (so.at q s).0, long)) in
    let more : take (suc place) rows ≡ take place rows ++ x ∷ [] = ap (λ k. take k rows) (sym (add-one place)) ∙ take_more rows place x l ∙ ap (λ y. take place rows ++ y ∷ []) (sym is) in
    record {
      found = h ∙ ap (λ xs. option_or (find passes xs) old) more ∙ ap (λ o. option_or o old) (find-append passes (take place rows) (x ∷ []))
          ∙ kept_found passes (find passes (take place rows)) x old ∙ ap (option_or (find passes (take place rows))) (sym n)
          ∙ ap (λ o. option_or o new) (so.found ∙ ap (find passes) (shorter (left next) place rows less));
      at = λ q s.
          let there = so.at q s in
          (omega (arith, there.0, long, l), sym (get_or-take place (map number rows) q 0 (omega (arith, there.0, long))) ∙ ap (λ ns. slice_index ns q) (take-map number place rows) ∙ there.1);
      less = less;
    }

-- the place that was found, after this one
seen_at : {R : Type 0} (passes : R → Bool) (rows : List R) (place : ℕ) (x : R) (old new : Option ℕ) → place < length rows → x ≡ get_or rows place x
    → new ≡ cond (passes x) (Some place) old
    → option_and_then (slice_get rows) new ≡ cond (passes x) (Some x) (option_and_then (slice_get rows) old)
seen_at passes rows place x old new l is e = ap (option_and_then (slice_get rows)) e ∙ by (passes x)
  where
    by : (b : Bool) → option_and_then (slice_get rows) (cond b (Some place) old) ≡ cond b (Some x) (option_and_then (slice_get rows) old)
    by true = slice_get-get_or rows place x l ∙ ap Some (sym is)
    by false = refl

or_nothing : {R : Type 0} (o : Option R) → o ≡ option_or o None
or_nothing None = refl
or_nothing (Some x) = refl

-- where the walk begins
pub begun : {R : Type 0} (number : R → ℕ) (passes : R → Bool) (sought : ℕ) → ((r : R) → passes r ≡ true → number r ≡ sought)
    → (rows : List R) (next : Option ℕ) → next ≡ last_place sought (map number rows)
    → (find passes rows ≡ option_or (find passes (take (left next) rows)) None)
    × ((place : ℕ) → next ≡ Some place → (place < length rows) × (slice_index (map number rows) place ≡ sought))
begun number passes sought agrees rows next e =
    let so = subst (λ (o : Option ℕ). Next number passes sought rows o) (sym e) (next_of number passes sought agrees rows) in
    (so.found ∙ or_nothing (find passes (take (left next) rows)), so.at)

-- one step of it
pub step : {R : Type 0} (number : R → ℕ) (passes : R → Bool) (sought : ℕ) → ((r : R) → passes r ≡ true → number r ≡ sought)
    → (rows : List R) (place : ℕ) (x : R) (now : Option ℕ) (old new : Option ℕ) (next : Option ℕ) → now ≡ Some place
    → find passes rows ≡ option_or (find passes (take (left now) rows)) (option_and_then (slice_get rows) old)
    → ((q : ℕ) → now ≡ Some q → (q < length rows) × (slice_index (map number rows) q ≡ sought))
    → x ≡ get_or rows place x → new ≡ cond (passes x) (Some place) old
    → next ≡ last_place (slice_index (map number rows) place) (take place (map number rows))
    → Goes number passes sought rows next (option_and_then (slice_get rows) new) place
step number passes sought agrees rows place x now old new next here found at is first before =
    let this = at place here in
    goes_on number passes sought agrees rows place x (option_and_then (slice_get rows) old) (option_and_then (slice_get rows) new) next this.0 is
    (found ∙ ap (λ n. option_or (find passes (take (left n) rows)) (option_and_then (slice_get rows) old)) here)
    (seen_at passes rows place x old new this.0 is first)
    (before ∙ ap (λ k. last_place k (take place (map number rows))) this.1)
