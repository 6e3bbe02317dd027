-- Rows of which something may still come: rows more, a place less, and what comes of them.
use Rattle.std.proofs.Common.{◌≡◌, ℕ, zero, suc, ◌+◌, Bool, inl, inr, List, [], ◌∷◌, ◌++◌, length, refl, sym, ap, subst, ◌∙◌, arith, add-one, Option, Some, None, slice_get}
use Rattle.std.specs.List.{find, flat_map, range_with_len, remove}
use Rattle.std.specs.Option.{option_or}
use Rattle.std.proofs.lemmas.List.Folds.{find-append}
use Rattle.pec_shelf.specs.Waiting.{AllElseDone}
use mathlib.Core.Logic.{⊎_elim}

none_some : {X Y : Type 0} (x : X) → None ≡ Some x → Y
none_some x e = cc

same_some : {X : Type 0} (x y : X) → Some x ≡ Some y → x ≡ y
same_some x y e = cc

pub one_row : {X : Type 0} (x y : X) (found : Option X) → Some x ≡ found → found ≡ Some y → x ≡ y
one_row x y found this that = same_some x y (this ∙ that)

-- ---- rows more

range_after : (first n : ℕ) → range_with_len first (suc n) ≡ range_with_len first n ++ (first + n) ∷ []
range_after first zero = ap (λ (k : ℕ). k ∷ []) (omega arith)
range_after first (suc n) =
    ap (λ ks. first ∷ ks) (range_after (first + 1) n ∙ ap (λ (k : ℕ). range_with_len (first + 1) n ++ k ∷ []) (omega arith))

pub range_more : (first n : ℕ) → range_with_len first (n + 1) ≡ range_with_len first n ++ (first + n) ∷ []
range_more first n = ap (range_with_len first) (add-one n) ∙ range_after first n

new_rows : {X : Type 0} (Done : ℕ → X → Type 0) (place : ℕ) (more : List X) → AllElseDone Done place more (range_with_len place (length more))
new_rows Done place [] = refl
new_rows Done place (row ∷ more) = inr (range_with_len (place + 1) (length more), refl, new_rows Done (place + 1) more)

pub more_rows : {X : Type 0} (Done : ℕ → X → Type 0) (place first : ℕ) (rows more : List X) (places : List ℕ) → AllElseDone Done place rows places → first ≡ place + length rows
    → AllElseDone Done place (rows ++ more) (places ++ range_with_len first (length more))
more_rows Done place first [] more places all e =
    let same : place ≡ first = omega arith in
    subst (AllElseDone Done place more) (ap (λ k. range_with_len k (length more)) same ∙ ap (λ ks. ks ++ range_with_len first (length more)) (sym all)) (new_rows Done place more)
more_rows Done place first (row ∷ rows) more places all e =
    ⊎_elim
    (λ done. inl (done.0, more_rows Done (place + 1) first rows more places done.1 (omega arith)))
    (λ here. inr (here.0 ++ range_with_len first (length more), ap (λ ks. ks ++ range_with_len first (length more)) here.1, more_rows Done (place + 1) first rows more here.0 here.2 (omega arith)))
    all

-- what was done with stays so
pub still_done : {X : Type 0} (Done Later : ℕ → X → Type 0) (place : ℕ) (rows : List X) (places : List ℕ) → ((k : ℕ) (row : X) → Done k row → Later k row)
    → AllElseDone Done place rows places → AllElseDone Later place rows places
still_done Done Later place [] places stays all = all
still_done Done Later place (row ∷ rows) places stays all =
    ⊎_elim
    (λ done. inl (stays place row done.0, still_done Done Later (place + 1) rows places stays done.1))
    (λ here. inr (here.0, here.1, still_done Done Later (place + 1) rows here.0 stays here.2))
    all

-- ---- a place less

pub place_less : {X : Type 0} (Done : ℕ → X → Type 0) (place : ℕ) (rows : List X) (places less : List ℕ) (index at : ℕ) → AllElseDone Done place rows places
    → slice_get places index ≡ Some at → less ≡ remove places index → ((k : ℕ) (row : X) → at ≡ place + k → slice_get rows k ≡ Some row → Done at row)
    → AllElseDone Done place rows less
place_less Done place [] places less index at all got is done = none_some at (sym (ap (λ ks. slice_get ks index) all) ∙ got)
place_less {X} Done place (row ∷ rows) places less index at all got is done =
    ⊎_elim
    (λ now. inl (now.0, place_less Done (place + 1) rows places less index at now.1 got is later))
    (λ here. by index here.0 here.2 (sym (ap (λ ks. slice_get ks index) here.1) ∙ got) (is ∙ ap (λ ks. remove ks index) here.1)
    (λ i left found. place_less Done (place + 1) rows here.0 left i at here.2 found))
    all
  where
    later : (k : ℕ) (x : X) → at ≡ (place + 1) + k → slice_get rows k ≡ Some x → Done at x
    later k x e s = done (suc k) x (omega arith) s

    by : (i : ℕ) (rest : List ℕ) → AllElseDone Done (place + 1) rows rest → slice_get (place ∷ rest) i ≡ Some at → less ≡ remove (place ∷ rest) i
        → ((j : ℕ) (left : List ℕ) → slice_get rest j ≡ Some at → left ≡ remove rest j → ((k : ℕ) (x : X) → at ≡ (place + 1) + k → slice_get rows k ≡ Some x → Done at x) → AllElseDone Done (place + 1) rows left)
        → AllElseDone Done place (row ∷ rows) less
    by zero rest all found is more =
        let same : place ≡ at = same_some place at found in
        inl (subst (λ (k : ℕ). Done k row) (sym same) (done 0 row (omega arith) refl), subst (AllElseDone Done (place + 1) rows) (sym is) all)
    by (suc j) rest all found is more =
        inr (remove rest j, is, more j (remove rest j) found refl (λ k x e s. done (suc k) x (omega arith) s))

-- ---- what comes of rows

-- what comes of all rows comes of those at the places
pub all_that_comes : {X Y : Type 0} (Done : ℕ → X → Type 0) (comes : ℕ → X → List Y) → ((k : ℕ) (row : X) → Done k row → comes k row ≡ [])
    → (rest : ℕ → List X → List Y) → ((k : ℕ) → rest k [] ≡ []) → ((k : ℕ) (row : X) (rows : List X) → rest k (row ∷ rows) ≡ comes k row ++ rest (k + 1) rows)
    → (at : ℕ → List Y) (place : ℕ) (rows : List X) (places : List ℕ) → AllElseDone Done place rows places
    → ((m k : ℕ) (row : X) → m ≡ place + k → slice_get rows k ≡ Some row → at m ≡ comes m row)
    → rest place rows ≡ flat_map at places
all_that_comes Done comes nothing rest ends begins at place [] places all is = ends place ∙ sym (ap (flat_map at) all)
all_that_comes {X} {Y} Done comes nothing rest ends begins at place (row ∷ rows) places all is =
    begins place row rows
    ∙ ⊎_elim
    (λ done. ap (λ ys. ys ++ rest (place + 1) rows) (nothing place row done.0)
    ∙ all_that_comes Done comes nothing rest ends begins at (place + 1) rows places done.1 later)
    (λ here. ap (λ ys. comes place row ++ ys) (all_that_comes Done comes nothing rest ends begins at (place + 1) rows here.0 here.2 later)
    ∙ ap (λ ys. ys ++ flat_map at here.0) (sym (is place 0 row (omega arith) refl)) ∙ sym (ap (flat_map at) here.1))
    all
  where
    later : (m k : ℕ) (x : X) → m ≡ (place + 1) + k → slice_get rows k ≡ Some x → at m ≡ comes m x
    later m k x e s = is m (suc k) x (omega arith) s

-- the first that is found in all rows is found in those at the places
pub first_that_comes : {X Y : Type 0} (Done : ℕ → X → Type 0) (test : Y → Bool) (of : X → List Y) → ((k : ℕ) (row : X) → Done k row → find test (of row) ≡ None)
    → (at : ℕ → List Y) (place : ℕ) (rows : List X) (places : List ℕ) → AllElseDone Done place rows places
    → ((m k : ℕ) (row : X) → m ≡ place + k → slice_get rows k ≡ Some row → at m ≡ of row)
    → find test (flat_map of rows) ≡ find test (flat_map at places)
first_that_comes Done test of nothing at place [] places all is = sym (ap (λ ks. find test (flat_map at ks)) all)
first_that_comes {X} {Y} Done test of nothing at place (row ∷ rows) places all is =
    find-append test (of row) (flat_map of rows)
    ∙ ⊎_elim
    (λ done. ap (λ (o : Option Y). option_or o (find test (flat_map of rows))) (nothing place row done.0)
    ∙ first_that_comes Done test of nothing at (place + 1) rows places done.1 later)
    (λ here. ap (option_or (find test (of row))) (first_that_comes Done test of nothing at (place + 1) rows here.0 here.2 later)
    ∙ sym (find-append test (of row) (flat_map at here.0))
    ∙ ap (λ ys. find test (ys ++ flat_map at here.0)) (sym (is place 0 row (omega arith) refl)) ∙ sym (ap (λ ks. find test (flat_map at ks)) here.1))
    all
  where
    later : (m k : ℕ) (x : X) → m ≡ (place + 1) + k → slice_get rows k ≡ Some x → at m ≡ of x
    later m k x e s = is m (suc k) x (omega arith) s
