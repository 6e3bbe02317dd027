-- Clocks: the moments that one answers, in order, and the last again behind them. The headline is `Gives`. This project's
-- profile.
use Rattle.std.specs.Prelude.{◌≡◌, ℕ, List, [], ◌∷◌, Option, None, Some}
use Rattle.pec_outside.specs.Memory.{CallState}

-- what comes behind the next moment: the others, and the last again
abbrev pub moments_behind : List ℕ → List ℕ
moments_behind [] = []
moments_behind (last ∷ []) = last ∷ []
moments_behind (first ∷ second ∷ more) = second ∷ more

-- This moment is the next of the moments, none where they have come to an end.
abbrev pub IsNext : ℕ → List ℕ → Type 0
IsNext moment [] = ⊥
IsNext moment (first ∷ more) = moment ≡ first

-- A clock that has these moments to come answers this one, and then has those to come.
abbrev pub Gives : Option (List ℕ) → ℕ → Option (List ℕ) → Type 0
Gives None moment now = now ≡ None
Gives (Some coming) moment now = IsNext moment coming × (now ≡ Some (moments_behind coming))

-- the clock in memory: the moments to come, and its calls
pub record ClockState : Type 0 where
  pub coming : List ℕ
  pub calls : CallState
