-- The place of a text's first fault (`FirstFault`, at the end): the first byte with which no right text goes on, or the
-- text's end where there is no such byte.
use Rattle.std.specs.Prelude.{◌≡◌, ℕ, ◌<◌, ◌≤◌, List, ◌++◌, length, take}
use Rattle.pec_grammar.specs.Grammar.{Grammar}

-- the text of a value
abbrev pub IsSpelled : {A : Type 0} → Grammar A → A → List ℕ → Type 0
IsSpelled g x text = g.Fits x × (text ≡ g.spell x)

-- some right text begins so
abbrev pub IsFront : {A : Type 0} → (A → List ℕ → Type 0) → List ℕ → Type 0
IsFront {A} IsText front = (x : A) × (more : List ℕ) × IsText x (front ++ more)

-- This place is the first fault of the bytes: they begin some right text up to there and none one byte further, and are
-- none themselves.
pub record FirstFault {A : Type 0} (IsText : A → List ℕ → Type 0) (bytes : List ℕ) (place : ℕ) : Type 0 where
  pub within : place ≤ length bytes
  pub alive : IsFront IsText (take place bytes)
  pub dead : (n : ℕ) → place < n → n ≤ length bytes → IsFront IsText (take n bytes) → ⊥
  pub other : (x : A) → IsText x bytes → ⊥
