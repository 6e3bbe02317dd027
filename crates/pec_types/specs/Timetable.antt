-- Moments in order that are told one by one, and how often one was looked up: `Times`, what a contract sees of a
-- timetable, and `Rising`, that order. This project's profile.
use Rattle.std.specs.Prelude.{ℕ, ◌+◌, ◌-◌, ◌^◌, ◌≤◌, min, List, [], ◌∷◌, Option, Some, None}

-- The moments, in seconds, how many look-ups there were, and for how many further moments there is memory.
pub record Times : Type 0 where
  pub moments : List ℕ
  pub looks : ℕ
  pub spare : ℕ

-- where a number of look-ups stays once it is there
abbrev pub greatest : ℕ
greatest = 2 ^ 64 - 1

-- one look-up more
abbrev pub raised : ℕ → ℕ
raised count = min (count + 1) greatest

-- the first moment isn't below this one, and each next one isn't below the one before it
abbrev pub AreFrom : ℕ → List ℕ → Type 0
AreFrom low [] = Unit {0}
AreFrom low (moment ∷ moments) = (low ≤ moment) × AreFrom moment moments

-- No moment is below the one before it.
abbrev pub Rising : List ℕ → Type 0
Rising moments = AreFrom 0 moments

-- the last moment, if there is one
abbrev pub last_of : List ℕ → Option ℕ
last_of [] = None
last_of (moment ∷ []) = Some moment
last_of (moment ∷ (next ∷ moments)) = last_of (next ∷ moments)
