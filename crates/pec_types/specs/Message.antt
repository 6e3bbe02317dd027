-- What names a message: the number of the provider that it was submitted to, and its number there.
use Rattle.std.specs.Prelude.{ℕ}

pub record Id : Type 0 where
  pub provider : ℕ
  pub number : ℕ
