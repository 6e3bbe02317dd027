-- How two counters of look-ups rise, a timetable's own and that of a call: `RoseAlike`, `AtMost` and `AtLeast`, in numbers
-- that stay at their greatest value once they are there. This project's profile.
use Rattle.std.specs.Prelude.{◌≡◌, ℕ, ◌+◌, ◌^◌, ◌<◌, ◌≤◌}
use Rattle.pec_types.specs.Timetable.{greatest}

-- A count rose by so many.
pub record RoseBy (number count later : ℕ) : Type 0 where
  pub fits : count + number ≤ greatest → later ≡ count + number
  pub tells : later < greatest → later ≡ count + number

-- Both counts rose by so many.
pub record Rose (number looks looks_later steps steps_later : ℕ) : Type 0 where
  pub table : RoseBy number looks looks_later
  pub call : RoseBy number steps steps_later

-- Both counts rose by the same number, unless one of them stands at its greatest value.
abbrev pub RoseAlike : ℕ → ℕ → ℕ → ℕ → Type 0
RoseAlike looks looks_later steps steps_later =
    looks_later < greatest → steps_later < greatest → looks_later + steps ≡ looks + steps_later

-- A count that was below 2 to the 63 rose by at most two more than these limits.
abbrev pub AtMost : ℕ → ℕ → ℕ → Type 0
AtMost limits steps later = steps < 2 ^ 63 → later ≤ steps + limits + 2

-- A count that was below 2 to the 63 rose by at least the number of these limits.
abbrev pub AtLeast : ℕ → ℕ → ℕ → Type 0
AtLeast limits steps later = steps < 2 ^ 63 → steps + limits ≤ later
