-- The accounts in a path that have room, found one after the other: each address is looked at once, and one that was
-- found isn't found again.
use Rattle.std.proofs.Common.{◌≡◌, ℕ, ◌+◌, ◌<◌, ◌≤◌, [], ◌∷◌, ◌++◌, Bool, true, false, not, ◌&&◌, ◌||◌, cond, length}
use Rattle.std.proofs.Common.{drop, get_or, refl, ap, sym, subst, ◌∙◌, append_assoc, append-nil}
use Rattle.std.specs.Prelude.{filter}
use Rattle.std.specs.List.{list_any}
use Rattle.std.specs.Str.{bytes_eq}
use Rattle.std.proofs.Math.ListN.{drop_of_length-le}
use Rattle.std.proofs.lemmas.Bool.Decides.{same_from_decides}
use Rattle.std.proofs.lemmas.List.{at_drop_more}
use Rattle.std.proofs.lemmas.List.Folds.{list_any-append}
use Rattle.std.proofs.lemmas.Slice.Eq.{bytes_eq-Decides}
use Rattle.pec_types.specs.Bytes.{Bytes, Path}
use Rattle.pec_plays.specs.Reception.{each_once}

-- an address that has room and isn't among those that were found
abbrev pub is_more : (Bytes → Bool) → Path → Bytes → Bool
is_more room found address = not (list_any (bytes_eq address) found) && room address

-- what is found in the rest of a path
abbrev pub more_in : (Bytes → Bool) → Path → Path → Path
more_in room found rest = filter (is_more room found) (each_once bytes_eq rest)

-- one filter behind another
both_head : (x : Bytes) (xs ys : Path) (p : Bytes → Bool) (q r : Bool) → cond q (p x) false ≡ r → filter p xs ≡ ys
    → filter p (cond q (x ∷ xs) xs) ≡ cond r (x ∷ ys) ys
both_head x xs ys p true r e rest = ap (λ t. cond t (x ∷ filter p xs) (filter p xs)) e
    ∙ ap (λ (zs : Path). cond r (x ∷ zs) zs) rest
both_head x xs ys p false r e rest = rest ∙ ap (λ t. cond t (x ∷ ys) ys) e

both : (p q r : Bytes → Bool) → ((x : Bytes) → cond (q x) (p x) false ≡ r x) → (xs : Path)
    → filter p (filter q xs) ≡ filter r xs
both p q r same [] = refl
both p q r same (x ∷ xs) = both_head x (filter q xs) (filter r xs) p (q x) (r x) (same x) (both p q r same xs)

equal_turned : (a b : Bytes) → bytes_eq a b ≡ bytes_eq b a
equal_turned a b =
    same_from_decides {P = a ≡ b} (bytes_eq a b) (bytes_eq b a) (bytes_eq-Decides a b)
    (λ e. sym ((bytes_eq-Decides b a).0 e), λ e. (bytes_eq-Decides b a).1 (sym e))

-- an address that is none leaves all that are equal to it out
left_out : (room : Bytes → Bool) (found : Path) (x : Bytes) → is_more room found x ≡ false → (y : Bytes) (t : Bool)
    → bytes_eq x y ≡ t
    → cond (not t) (is_more room found y) false ≡ is_more room found y
left_out room found x none y true e = sym (ap (is_more room found) (sym ((bytes_eq-Decides x y).0 e)) ∙ none)
left_out room found x none y false e = refl

tests_agree : (among same room : Bool) → cond (not same) (not among && room) false ≡
    (not (among || (same || false)) && room)
tests_agree true true room = refl
tests_agree true false room = refl
tests_agree false true room = refl
tests_agree false false room = refl

-- one that is found isn't looked for again
found_again : (room : Bytes → Bool) (found : Path) (x y : Bytes)
    → cond (not (bytes_eq x y)) (is_more room found y) false ≡ is_more room (found ++ x ∷ []) y
found_again room found x y =
    tests_agree (list_any (bytes_eq y) found) (bytes_eq x y) (room y)
    ∙ ap (λ t. not (list_any (bytes_eq y) found || (t || false)) && room y) (equal_turned x y)
    ∙ ap (λ t. not t && room y) (sym (list_any-append (bytes_eq y) found (x ∷ [])))

next_of : (room : Bytes → Bool) (found : Path) (x : Bytes) (xs : Path) (t : Bool) → is_more room found x ≡ t
    → more_in room found (x ∷ xs) ≡ cond t (x ∷ more_in room (found ++ x ∷ []) xs) (more_in room found xs)
next_of room found x xs true e =
    ap (λ t. cond t (x ∷ filter (is_more room found) (filter (λ y. not (bytes_eq x y)) (each_once bytes_eq xs)))
    (filter (is_more room found) (filter (λ y. not (bytes_eq x y)) (each_once bytes_eq xs)))) e
    ∙ ap (λ (ys : Path). x ∷ ys) (both (is_more room found) (λ y. not (bytes_eq x y)) (is_more room (found ++ x ∷ []))
    (found_again room found x) (each_once bytes_eq xs))
next_of room found x xs false e =
    ap (λ t. cond t (x ∷ filter (is_more room found) (filter (λ y. not (bytes_eq x y)) (each_once bytes_eq xs)))
    (filter (is_more room found) (filter (λ y. not (bytes_eq x y)) (each_once bytes_eq xs)))) e
    ∙ both (is_more room found) (λ y. not (bytes_eq x y)) (is_more room found)
    (λ y. left_out room found x e y (bytes_eq x y) refl) (each_once bytes_eq xs)

-- ---- the loop

-- what was found, and what is left to find, is all
abbrev pub FindsAll : (Bytes → Bool) → Path → Path → Path → Type 0
FindsAll room path found rest = filter room (each_once bytes_eq path) ≡ found ++ more_in room found rest

pub finds_all : (room : Bytes → Bool) (path : Path) → FindsAll room path [] path
finds_all room path = refl

found_one : (room : Bytes → Bool) (path found : Path) (i : ℕ) (x : Bytes) → i < length path → x ≡ get_or path i x
    → is_more room found x ≡ true
    → FindsAll room path found (drop i path) → FindsAll room path (found ++ x ∷ []) (drop (i + 1) path)
found_one room path found i x l e more all =
    all ∙ ap (λ (ys : Path). found ++ ys)
    (at_drop_more (more_in room found) path i x l
    ∙ ap (λ (y : Bytes). more_in room found (y ∷ drop (i + 1) path)) (sym e)
    ∙ next_of room found x (drop (i + 1) path) true more)
    ∙ sym (append_assoc found (x ∷ []) (more_in room (found ++ x ∷ []) (drop (i + 1) path)))

found_none : (room : Bytes → Bool) (path found : Path) (i : ℕ) (x : Bytes) → i < length path → x ≡ get_or path i x
    → is_more room found x ≡ false
    → FindsAll room path found (drop i path) → FindsAll room path found (drop (i + 1) path)
found_none room path found i x l e none all =
    all ∙ ap (λ (ys : Path). found ++ ys)
    (at_drop_more (more_in room found) path i x l
    ∙ ap (λ (y : Bytes). more_in room found (y ∷ drop (i + 1) path)) (sym e)
    ∙ next_of room found x (drop (i + 1) path) false none)

found_next_by : (room : Bytes → Bool) (path found new : Path) (i : ℕ) (x : Bytes) → i < length path
    → x ≡ get_or path i x
    → (t : Bool) → is_more room found x ≡ t → new ≡ found ++ cond t (x ∷ []) []
    → FindsAll room path found (drop i path) → FindsAll room path new (drop (i + 1) path)
found_next_by room path found new i x l e true t is all =
    subst (λ (xs : Path). FindsAll room path xs (drop (i + 1) path)) (sym is) (found_one room path found i x l e t all)
found_next_by room path found new i x l e false t is all =
    subst (λ (xs : Path). FindsAll room path xs (drop (i + 1) path)) (sym (is ∙ append-nil found))
    (found_none room path found i x l e t all)

-- one address was looked at
pub found_next : (room : Bytes → Bool) (path found new : Path) (i : ℕ) (x : Bytes) → i < length path
    → x ≡ get_or path i x
    → new ≡ found ++ filter (is_more room found) (x ∷ [])
    → FindsAll room path found (drop i path) → FindsAll room path new (drop (i + 1) path)
found_next room path found new i x l e is all = found_next_by room path found new i x l e
    (is_more room found x) refl is all

pub found_all : (room : Bytes → Bool) (path found : Path) (i : ℕ) → length path ≤ i
    → FindsAll room path found (drop i path)
    → found ≡ filter room (each_once bytes_eq path)
found_all room path found i l all =
    sym (all ∙ ap (λ (rest : Path). found ++ more_in room found rest) (drop_of_length-le path l) ∙ append-nil found)
