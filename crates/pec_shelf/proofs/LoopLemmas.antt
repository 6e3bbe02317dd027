-- Loops over lists that go on behind what is done.
use Rattle.std.proofs.Common.{◌≡◌, ℕ, suc, Bool, ◌+◌, ◌<◌, List, [], ◌∷◌, ◌++◌, length, map, take, drop, get_or, refl, sym, ap, ◌∙◌, append_assoc, append-nil, add-one, drop-cons, Option, Some, None}
use Rattle.std.specs.List.{filter_map, find, flat_map}
use Rattle.std.specs.Option.{option_or}
use Rattle.std.proofs.lemmas.List.{get_or_default, map-append, take_more}
use Rattle.std.proofs.lemmas.Grind.{flat_map-append}
use Rattle.std.proofs.lemmas.List.Folds.{find-append}
use Rattle.std.proofs.lemmas.List.Elements.{filter_map-append}
use Rattle.pec_ledger.specs.Half.{Half, Mark}
use Rattle.pec_ledger.specs.Pairs.{Pair}
use Rattle.pec_ledger.specs.Steps.{notice_by}
use Rattle.pec_shelf.specs.Prepared.{Prepared, with_marks}

pub drop_at : {X : Type 0} (xs : List X) (n : ℕ) (x : X) → n < length xs → x ≡ get_or xs n x → drop n xs ≡ x ∷ drop (n + 1) xs
drop_at xs n x l e = rw (add-one n, drop-cons xs n x) (ap (λ y. y ∷ drop (suc n) xs) (sym e))

pub take_one : {X : Type 0} (xs : List X) (n : ℕ) (x : X) → n < length xs → x ≡ get_or xs n x → take (n + 1) xs ≡ take n xs ++ x ∷ []
take_one xs n x l e = take_more xs n x l ∙ ap (λ y. take n xs ++ y ∷ []) (sym e)

-- what was there in front, with what one more item gives
pub flat_behind : {X Y : Type 0} (f : X → List Y) (xs : List X) (n : ℕ) (d : X) (front now new : List Y) → n < length xs
    → now ≡ front ++ flat_map f (take n xs) → new ≡ now ++ f (get_or xs n d) → new ≡ front ++ flat_map f (take (n + 1) xs)
flat_behind f xs n d front now new l h more =
    let x = get_or xs n d in
    more ∙ ap (λ ys. ys ++ f x) h ∙ append_assoc front (flat_map f (take n xs)) (f x)
    ∙ ap (λ ys. front ++ (flat_map f (take n xs) ++ ys)) (sym (append-nil (f x)))
    ∙ ap (λ ys. front ++ ys) (sym (ap (flat_map f) (take_one xs n x l (get_or_default xs n d x l)) ∙ flat_map-append f (take n xs) (x ∷ [])))

pub filter_map_joined : {X Y : Type 0} (h : X → Option Y) (xs ys : List X) → filter_map h (xs ++ ys) ≡ filter_map h xs ++ filter_map h ys
filter_map_joined h xs ys = filter_map-append h xs ys

pub marks_joined : (half : Half) (ready : Prepared) (a b : List Mark) → with_marks half (with_marks half ready a) b ≡ with_marks half ready (a ++ b)
marks_joined half ready a b = rw (append_assoc ready.adds.marks a b, map-append (notice_by half) a b, append_assoc ready.adds.items (map (notice_by half) a) (map (notice_by half) b)) refl

-- ---- pairs that were taken

pairs_step : {X : Type 0} (test : Pair → Bool) (of : X → List Pair) (xs : List X) (n : ℕ) (d : X) → n < length xs
    → find test (flat_map of (drop n xs)) ≡ option_or (find test (of (get_or xs n d))) (find test (flat_map of (drop (n + 1) xs)))
pairs_step test of xs n d l =
    ap (λ left. find test (flat_map of left)) (drop_at xs n (get_or xs n d) l (get_or_default xs n d (get_or xs n d) l))
    ∙ find-append test (of (get_or xs n d)) (flat_map of (drop (n + 1) xs))

pub pair_here : {X : Type 0} (test : Pair → Bool) (of : X → List Pair) (xs : List X) (n : ℕ) (d : X) (pair : Pair) → n < length xs
    → find test (flat_map of xs) ≡ find test (flat_map of (drop n xs)) → Some pair ≡ find test (of (get_or xs n d))
    → Some pair ≡ find test (flat_map of xs)
pair_here test of xs n d pair l h found =
    sym (h ∙ pairs_step test of xs n d l ∙ ap (λ (o : Option Pair). option_or o (find test (flat_map of (drop (n + 1) xs)))) (sym found))

pub pair_later : {X : Type 0} (test : Pair → Bool) (of : X → List Pair) (xs : List X) (n : ℕ) (d : X) → n < length xs
    → find test (flat_map of xs) ≡ find test (flat_map of (drop n xs)) → None ≡ find test (of (get_or xs n d))
    → find test (flat_map of xs) ≡ find test (flat_map of (drop (n + 1) xs))
pair_later test of xs n d l h none =
    h ∙ pairs_step test of xs n d l ∙ ap (λ (o : Option Pair). option_or o (find test (flat_map of (drop (n + 1) xs)))) (sym none)

-- ---- marks

pub filter_more : {X Y : Type 0} (h : X → Option Y) (xs : List X) (n : ℕ) (x : X) (old new : List Y) → n < length xs → x ≡ get_or xs n x → old ≡ filter_map h (take n xs)
    → new ≡ old ++ filter_map h (x ∷ []) → new ≡ filter_map h (take (n + 1) xs)
filter_more h xs n x old new l e is step =
    step ∙ ap (λ ys. ys ++ filter_map h (x ∷ [])) is ∙ sym (filter_map-append h (take n xs) (x ∷ [])) ∙ ap (filter_map h) (sym (take_one xs n x l e))

pub no_marks_more : (half : Half) (ready : Prepared) (marks : List Mark) → marks ≡ [] → ready ≡ with_marks half ready marks
no_marks_more half ready marks none = rw (none, append-nil ready.adds.marks, append-nil ready.adds.items) refl
