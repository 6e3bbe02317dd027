-- Which limits of pairs have passed: `passed`, how many by a moment, and `passing`, how many between two. A pair has two
-- limits, 12 and 22 hours after its acceptance. This project's profile.
use Rattle.std.specs.Prelude.{ℕ, ◌+◌, nat_lt, nat_le, Bool, ◌&&◌, List, length, filter}
use Rattle.pec_types.specs.declared.limits.TheConstants.{WARNING_AFTER, NOTICE_AFTER}

-- the limit so many seconds after an acceptance is at or before this moment
abbrev pub is_past : ℕ → ℕ → ℕ → Bool
is_past limit now accepted = nat_le (accepted + limit) now

-- Of how many acceptances the limit so many seconds after them has passed by a moment.
abbrev pub passed : ℕ → ℕ → List ℕ → ℕ
passed limit now moments = length (filter (is_past limit now) moments)

-- the limit so many seconds after an acceptance is after the last clock call, and at or before this moment
abbrev pub passes : ℕ → ℕ → ℕ → ℕ → Bool
passes limit last now accepted = nat_lt last (accepted + limit) && nat_le (accepted + limit) now

-- How many limits of pairs with these acceptances pass between the moment of the last clock call, 0 where there was none,
-- and this one. No acceptance's limit is at 0.
abbrev pub passing : ℕ → ℕ → List ℕ → ℕ
passing last now moments =
    length (filter (passes WARNING_AFTER last now) moments) + length (filter (passes NOTICE_AFTER last now) moments)
