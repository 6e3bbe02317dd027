-- Bytes that flow from a source or into a sink, and counts of faults. This project's profile.
-- None stands for content that an object doesn't tell, so that each clause on content is one equation.
use Rattle.std.specs.Prelude.{◌≡◌, ℕ, ◌-◌, ◌^◌, ◌<◌, min, List, ◌++◌, Option, None, Some}
use Rattle.std.proofs.Common.{arith}

-- these bytes, and the others behind them
abbrev pub behind : List ℕ → Option (List ℕ) → Option (List ℕ)
behind front None = None
behind front (Some rest) = Some (front ++ rest)

-- the bytes, with more at their end
abbrev pub followed_by : Option (List ℕ) → List ℕ → Option (List ℕ)
followed_by None more = None
followed_by (Some bytes) more = Some (bytes ++ more)

-- A count has risen. One that stands at the greatest u64 counts as risen.
abbrev pub HasRisen : ℕ → ℕ → Type 0
HasRisen before now = before < 2 ^ 64 - 1 → before < now

-- A count as the u64 that it is, which its type alone says.
abbrev pub as_u64 : ℕ → ℕ
as_u64 n = min n (2 ^ 64 - 1)

pub u64_of : (n : ℕ) → as_u64 n < 2 ^ 64
u64_of n = omega arith

-- of all, all but the rest was written
pub record Wrote (before after : Option (List ℕ)) (all rest : List ℕ) : Type 0 where
  pub done : List ℕ
  pub held : after ≡ followed_by before done
  pub text : all ≡ done ++ rest

-- a front of all was written
pub record WrotePart (before after : Option (List ℕ)) (all : List ℕ) : Type 0 where
  pub rest : List ℕ
  pub wrote : Wrote before after all rest
