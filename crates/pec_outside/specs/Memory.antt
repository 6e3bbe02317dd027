-- The memory forms of a source and a sink: what they hold, and their calls. This project's profile.
use Rattle.std.specs.Prelude.{ℕ, ◌+◌, ◌-◌, ◌^◌, nat_lt, if◌then◌else◌, List, Contains}

-- the calls of a memory form
pub record CallState : Type 0 where
  pub made : ℕ  -- how many there were, which is the number of the next
  pub failing : List ℕ  -- the numbers of those that fail
  pub faults : ℕ  -- how many failed

-- the bytes that a source still has
pub record SourceState : Type 0 where
  pub rest : List ℕ
  pub piece : ℕ  -- a read gives at most so many bytes
  pub calls : CallState

-- the bytes that a sink has taken
pub record SinkState : Type 0 where
  pub bytes : List ℕ
  pub calls : CallState

-- before the first call
abbrev pub no_calls : List ℕ → CallState
no_calls failing = record { made = 0; failing = failing; faults = 0 }

-- the next call is one of those that fail
abbrev pub NextFails : CallState → Type 0
NextFails calls = Contains calls.failing calls.made

-- one more, but for the greatest u64, which stays
abbrev pub risen : ℕ → ℕ
risen n = if nat_lt n (2 ^ 64 - 1) then n + 1 else n

-- after a call that was answered
abbrev pub answered : CallState → CallState
answered calls = record calls { made = risen calls.made }

-- after a call that failed
abbrev pub faulted : CallState → CallState
faulted calls = record calls { made = risen calls.made; faults = risen calls.faults }
