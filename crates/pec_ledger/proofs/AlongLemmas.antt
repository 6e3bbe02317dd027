-- Conditions along a list: joined, parted, weakened, and what every step keeps.
use Rattle.std.proofs.Common.{◌≡◌, List, [], ◌∷◌, ◌++◌, refl, ap, sym, ◌∙◌}
use Rattle.std.specs.Prelude.{fold}
use Rattle.std.proofs.lemmas.List.{append_assoc}
use Rattle.pec_ledger.specs.Along.{AllAlong, GoesOnAs}

module _ {S X : Type 0} (step : S → X → S) where
  pub along_append : (M : S → X → Type 0) (s : S) (xs ys : List X) → AllAlong step M s xs → AllAlong step M (fold step s xs) ys
      → AllAlong step M s (xs ++ ys)
  along_append M s [] ys a b = b
  along_append M s (x ∷ xs) ys a b = (a.0, along_append M (step s x) xs ys a.1 b)

  pub along_left : (M : S → X → Type 0) (s : S) (xs ys : List X) → AllAlong step M s (xs ++ ys) → AllAlong step M s xs
  along_left M s [] ys a = tt
  along_left M s (x ∷ xs) ys a = (a.0, along_left M (step s x) xs ys a.1)

  pub along_right : (M : S → X → Type 0) (s : S) (xs ys : List X) → AllAlong step M s (xs ++ ys) → AllAlong step M (fold step s xs) ys
  along_right M s [] ys a = a
  along_right M s (x ∷ xs) ys a = along_right M (step s x) xs ys a.1

  pub along_at : (M : S → X → Type 0) (s : S) (xs : List X) (x : X) (ys : List X) → AllAlong step M s (xs ++ x ∷ ys) → M (fold step s xs) x
  along_at M s [] x ys a = a.0
  along_at M s (y ∷ xs) x ys a = along_at M (step s y) xs x ys a.1

  pub along_weaker : (M N : S → X → Type 0) → ((s : S) (x : X) → M s x → N s x) → (s : S) (xs : List X) → AllAlong step M s xs → AllAlong step N s xs
  along_weaker M N w s [] a = tt
  along_weaker M N w s (x ∷ xs) a = (w s x a.0, along_weaker M N w (step s x) xs a.1)

  -- what each step keeps holds at the end
  pub along_kept : (M : S → X → Type 0) (I : S → Type 0) → ((s : S) (x : X) → I s → M s x → I (step s x))
      → (s : S) (xs : List X) → I s → AllAlong step M s xs → I (fold step s xs)
  along_kept M I each s [] i a = i
  along_kept M I each s (x ∷ xs) i a = along_kept M I each (step s x) xs (each s x i a.0) a.1

  -- the same where steps need no condition
  pub always_kept : (I : S → Type 0) → ((s : S) (x : X) → I s → I (step s x)) → (s : S) (xs : List X) → I s → I (fold step s xs)
  always_kept I each s [] i = i
  always_kept I each s (x ∷ xs) i = always_kept I each (step s x) xs (each s x i)

-- ---- lists that go on

pub goes_on_itself : {X : Type 0} (xs : List X) → GoesOnAs xs xs
goes_on_itself xs = ([], sym (append_nil xs))
  where
    append_nil : {X : Type 0} (xs : List X) → xs ++ [] ≡ xs
    append_nil [] = refl
    append_nil (x ∷ xs) = ap (λ ys. x ∷ ys) (append_nil xs)

pub goes_on_by : {X : Type 0} (xs more : List X) → GoesOnAs xs (xs ++ more)
goes_on_by xs more = (more, refl)

pub goes_on_through : {X : Type 0} (xs ys zs : List X) → GoesOnAs xs ys → GoesOnAs ys zs → GoesOnAs xs zs
goes_on_through xs ys zs (more, e) (last, f) =
    (more ++ last, f ∙ ap (λ l. l ++ last) e ∙ append_assoc xs more last)
