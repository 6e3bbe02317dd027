-- Ranges of moments.
use Rattle.std.specs.Prelude.{ℕ, nat_le, Bool, ◌&&◌}

-- a moment of this range, whose ends belong to it
abbrev pub is_within : (from upto : ℕ) → ℕ → Bool
is_within from upto moment = nat_le from moment && nat_le moment upto
