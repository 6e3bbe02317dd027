-- A moment more at the end of moments in order.
use Rattle.std.proofs.Common.{ℕ, ◌≤◌, List, [], ◌∷◌, ◌++◌, IfSome, arith}
use Rattle.pec_types.specs.Timetable.{AreFrom, Rising, last_of}

rises_behind : (low moment first : ℕ) (moments : List ℕ) → AreFrom low (first ∷ moments)
    → IfSome (last_of (first ∷ moments)) (λ last. last ≤ moment) → AreFrom low ((first ∷ moments) ++ moment ∷ [])
rises_behind low moment first [] from last = (from.0, (last, tt))
rises_behind low moment first (next ∷ moments) from last = (from.0, rises_behind first moment next moments from.1 last)

-- a moment more that isn't below the last one
pub rises_on : (moment : ℕ) (moments : List ℕ) → Rising moments → IfSome (last_of moments) (λ last. last ≤ moment)
    → Rising (moments ++ moment ∷ [])
rises_on moment [] from last = (omega arith, tt)
rises_on moment (first ∷ moments) from last = rises_behind 0 moment first moments from last
