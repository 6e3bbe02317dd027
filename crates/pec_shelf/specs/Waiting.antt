-- Rows of which something may still come: `AllElseDone`, a rising list of places, where every row that stands at none
-- of them is done with.
use Rattle.std.specs.Prelude.{◌≡◌, ℕ, ◌+◌, ◌⊎◌, List, [], ◌∷◌, Some, slice_get}

-- The places, and how many further ones there is memory for.
pub record Places : Type 0 where
  pub places : List ℕ
  pub room : ℕ

-- The places rise, and of these rows, the first of which has this place, each that stands at none of them is done with.
abbrev pub AllElseDone : {X : Type 0} → (ℕ → X → Type 0) → ℕ → List X → List ℕ → Type 0
AllElseDone Done place [] places = places ≡ []
AllElseDone Done place (row ∷ rows) places =
    (Done place row × AllElseDone Done (place + 1) rows places)
    ⊎ ((rest : List ℕ) × (places ≡ place ∷ rest) × AllElseDone Done (place + 1) rows rest)

-- A place stands at this index, and the row there is done with.
pub record IsDoneAt {X : Type 0} (Done : ℕ → X → Type 0) (rows : List X) (places : List ℕ) (index : ℕ) : Type 0 where
  pub place : ℕ
  pub stands : slice_get places index ≡ Some place
  pub done : (row : X) → slice_get rows place ≡ Some row → Done place row
