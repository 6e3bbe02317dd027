-- One more address put behind others.
use Rattle.std.proofs.Common.{◌≡◌, ℕ, ◌+◌, ◌<◌, List, [], ◌∷◌, ◌++◌, length, get_or, take, sym, ap, ◌∙◌, append_assoc}
use Rattle.std.specs.List.{flat_map, AllByRecursion}
use Rattle.std.proofs.lemmas.Grind.{flat_map-append}
use Rattle.std.proofs.lemmas.List.{take_more, append-nil}

taken : {X : Type 0} (xs : List X) (i : ℕ) (x : X) → i < length xs → x ≡ get_or xs i x → take (i + 1) xs ≡ take i xs ++ x ∷ []
taken xs i x lt is = take_more xs i x lt ∙ ap (λ z. take i xs ++ z ∷ []) (sym is)

all_push : {X : Type 0} (P : X → Type 0) (xs : List X) (x : X) → AllByRecursion P xs → P x → AllByRecursion P (xs ++ x ∷ [])
all_push P [] x all last = (last, tt)
all_push P (y ∷ ys) x all last = (all.0, all_push P ys x all.1 last)

pub all_taken : {X : Type 0} (P : X → Type 0) (xs : List X) (i : ℕ) (x : X) → i < length xs → x ≡ get_or xs i x → AllByRecursion P (take i xs) → P x → AllByRecursion P (take (i + 1) xs)
all_taken P xs i x lt is all last = rw (taken xs i x lt is) (all_push P (take i xs) x all last)

pub put_taken : {X : Type 0} (f : X → List ℕ) (xs : List X) (i : ℕ) (x : X) (t u v : List ℕ) → i < length xs → x ≡ get_or xs i x
    → u ≡ t ++ flat_map f (take i xs) → v ≡ u ++ f x → v ≡ t ++ flat_map f (take (i + 1) xs)
put_taken f xs i x t u v lt is so_far put =
    let one : flat_map f (x ∷ []) ≡ f x = append-nil (f x) in
    put ∙ (ap (λ z. z ++ f x) so_far ∙ (append_assoc t (flat_map f (take i xs)) (f x)
    ∙ ap (λ z. t ++ z) (ap (λ z. flat_map f (take i xs) ++ z) (sym one) ∙ (sym (flat_map-append f (take i xs) (x ∷ [])) ∙ ap (λ z. flat_map f z) (sym (taken xs i x lt is))))))
