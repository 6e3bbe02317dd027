-- Rows, as a contract sees them.
use Rattle.std.specs.Prelude.{ℕ, List}

-- Rows in order of adding, and how many further ones there is memory for.
pub record Rows (R : Type 0) : Type 0 where
  pub rows : List R
  pub room : ℕ
