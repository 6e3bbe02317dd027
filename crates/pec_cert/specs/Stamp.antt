-- Stamps (`Instant` and `IsStamp`): a moment, and the clock that shows it. RFC 6109 section 4.4 for what they are for;
-- the bounds are this project's profile, and the minutes those of an offset that a POSIX rule can give (IEEE Std
-- 1003.1, TZ): less than 26 hours either way.
use Rattle.std.specs.Prelude.{ℕ, ◌<◌, ℤ, pos, neg_ℤ, ◌≤ℤ◌}
use Rattle.pec_types.specs.declared.moments.TheConstants.{END_OF_TIME}

-- seconds since 1970-01-01T00:00:00Z, and how many minutes the clock that shows them is ahead of UTC
pub record Instant : Type 0 where
  pub moment : ℕ
  pub minutes : ℤ

-- 25 hours and 59 minutes
abbrev pub most_minutes : ℕ
most_minutes = 1559

-- the whole minutes of an offset
abbrev pub IsMinutes : ℤ → Type 0
IsMinutes minutes = (neg_ℤ (pos most_minutes) ≤ℤ minutes) × (minutes ≤ℤ pos most_minutes)

-- a stamp that there is: of a moment before the year 2100
abbrev pub IsStamp : Instant → Type 0
IsStamp stamp = (stamp.moment < END_OF_TIME) × IsMinutes stamp.minutes
