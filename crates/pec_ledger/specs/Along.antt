-- Conditions that follow a list: each item meets one in the state that those before it led to. `AllAlong`, from which
-- all that is said of journals is made. This project's profile.
use Rattle.std.specs.Prelude.{◌≡◌, ℕ, Bool, List, [], ◌∷◌, ◌++◌, length, filter}

-- Each item meets the condition in the state to which the items before it led.
abbrev pub AllAlong : {S X : Type 0} → (S → X → S) → (S → X → Type 0) → S → List X → Type 0
AllAlong step Meets s [] = Unit {0}
AllAlong step Meets s (x ∷ xs) = Meets s x × AllAlong step Meets (step s x) xs

-- How many items pass a test.
abbrev pub times : {X : Type 0} → (X → Bool) → List X → ℕ
times test xs = length (filter test xs)

-- The list goes on as this one: it is its front.
abbrev pub GoesOnAs : {X : Type 0} → List X → List X → Type 0
GoesOnAs {X} xs ys = (rest : List X) × (ys ≡ xs ++ rest)

-- The item is none of the list.
abbrev pub StandsNotIn : {X : Type 0} → X → List X → Type 0
StandsNotIn x [] = Unit {0}
StandsNotIn x (y ∷ ys) = (x ≡ y → ⊥) × StandsNotIn x ys

-- No two items are equal, by recursion on the list: no item stands again behind itself.
abbrev pub AllDiffer : {X : Type 0} → List X → Type 0
AllDiffer [] = Unit {0}
AllDiffer (x ∷ xs) = StandsNotIn x xs × AllDiffer xs
