-- One piece of a text put behind another.
use Rattle.std.proofs.Common.{◌≡◌, ℕ, ◌+◌, ◌<◌, List, [], ◌∷◌, ◌++◌, length, get_or, take, map, refl, sym, ap, ◌∙◌, arith, append_assoc}
use Rattle.std.specs.List.{flat_map, AllByRecursion}
use Rattle.std.proofs.lemmas.List.{take_more, append-nil}
use Rattle.pec_grammar.specs.Grammar.{AllOfSome}

pub put_more : (t u v x rest : List ℕ) → u ≡ t ++ x → v ≡ u ++ rest → v ≡ t ++ (x ++ rest)
put_more t u v x rest first second = second ∙ (ap (λ z. z ++ rest) first ∙ append_assoc t x rest)

pub put_same : (t u x y : List ℕ) → u ≡ t ++ x → x ≡ y → u ≡ t ++ y
put_same t u x y put same = put ∙ ap (λ z. t ++ z) same

module _ {X : Type 0} (f : X → List ℕ) where
  pub flat_map_push : (xs : List X) (x : X) → flat_map f (xs ++ x ∷ []) ≡ flat_map f xs ++ f x
  flat_map_push [] x = append-nil (f x)
  flat_map_push (y ∷ ys) x = ap (λ z. f y ++ z) (flat_map_push ys x) ∙ sym (append_assoc (f y) (flat_map f ys) (f x))

pub all_push : {X : Type 0} (P : X → Type 0) (xs : List X) (x : X) → AllByRecursion P xs → P x → AllByRecursion P (xs ++ x ∷ [])
all_push P [] x all last = (last, tt)
all_push P (y ∷ ys) x all last = (all.0, all_push P ys x all.1 last)

-- one more element of a list
pub taken : {X : Type 0} (xs : List X) (i : ℕ) (x : X) → i < length xs → x ≡ get_or xs i x → take (i + 1) xs ≡ take i xs ++ x ∷ []
taken xs i x lt is = take_more xs i x lt ∙ ap (λ z. take i xs ++ z ∷ []) (sym is)

pub all_taken : {X : Type 0} (P : X → Type 0) (xs : List X) (i : ℕ) (x : X) → i < length xs → x ≡ get_or xs i x → AllByRecursion P (take i xs) → P x → AllByRecursion P (take (i + 1) xs)
all_taken P xs i x lt is all last = rw (taken xs i x lt is) (all_push P (take i xs) x all last)

-- the lines of one more element
pub lines_taken : {X Y : Type 0} (f : Y → List ℕ) (g : X → Y) (xs : List X) (i : ℕ) (x : X) (t u v : List ℕ) → i < length xs → x ≡ get_or xs i x
    → u ≡ t ++ flat_map f (map g (take i xs)) → v ≡ u ++ f (g x) → v ≡ t ++ flat_map f (map g (take (i + 1) xs))
lines_taken f g xs i x t u v lt is so_far put =
    put ∙ (ap (λ z. z ++ f (g x)) so_far ∙ (append_assoc t (flat_map f (map g (take i xs))) (f (g x)) ∙ ap (λ z. t ++ z) (one_more (take i xs) ∙ ap (λ z. flat_map f (map g z)) (sym (taken xs i x lt is)))))
  where
    one_more : (ys : List _) → flat_map f (map g ys) ++ f (g x) ≡ flat_map f (map g (ys ++ x ∷ []))
    one_more [] = sym (append-nil (f (g x)))
    one_more (y ∷ ys) = append_assoc (f (g y)) (flat_map f (map g ys)) (f (g x)) ∙ ap (λ z. f (g y) ++ z) (one_more ys)

pub map_same : {X : Type 0} (xs : List X) → map (λ x. x) xs ≡ xs
map_same [] = refl
map_same (x ∷ xs) = ap (λ z. x ∷ z) (map_same xs)

pub line_taken : {X : Type 0} (f : X → List ℕ) (xs : List X) (i : ℕ) (x : X) (t u v : List ℕ) → i < length xs → x ≡ get_or xs i x
    → u ≡ t ++ flat_map f (take i xs) → v ≡ u ++ f x → v ≡ t ++ flat_map f (take (i + 1) xs)
line_taken f xs i x t u v lt is so_far put =
    put ∙ (ap (λ z. z ++ f x) so_far ∙ (append_assoc t (flat_map f (take i xs)) (f x) ∙ ap (λ z. t ++ z) (sym (flat_map_push f (take i xs) x) ∙ ap (λ z. flat_map f z) (sym (taken xs i x lt is)))))

-- the pieces that are put are the lines of a text
pub assembled : (front sender recipients reply subject between provider shown id reference wish delivered received detail end : List ℕ)
    → (front ++ sender) ++ (recipients ++ ((reply ++ (subject ++ (between ++ provider))) ++ (shown ++ ((id ++ (reference ++ wish)) ++ (delivered ++ (received ++ (detail ++ end)))))))
    ≡ front ++ (sender ++ (recipients ++ (reply ++ (subject ++ (between ++ (provider ++ (shown ++ (id ++ (reference ++ (wish ++ (delivered ++ (received ++ (detail ++ end)))))))))))))
assembled front sender recipients reply subject between provider shown id reference wish delivered received detail end = simp append_assoc

pub some_all : {X : Type 0} (P : X → Type 0) (xs : List X) → 0 < length xs → AllByRecursion P xs → AllOfSome P xs
some_all P [] some all = absurd (omega arith)
some_all P (x ∷ xs) some all = all

pub put_first : (t v x y : List ℕ) → t ≡ [] → v ≡ t ++ x → x ≡ y → v ≡ y
put_first t v x y empty put same = put ∙ (ap (λ z. z ++ x) empty ∙ same)
