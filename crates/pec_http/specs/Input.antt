-- The bytes of a request, as far as a connection tells them: `IsInput`.
use Rattle.std.specs.Prelude.{◌≡◌, ℕ, ◌<◌, ◌++◌, length, Option, None, Some, ⊤}
use Rattle.pec_outside.specs.Flow.{behind}
use Rattle.pec_types.specs.Bytes.{Bytes}
use Rattle.pec_http_head.specs.Cuts.{cut_of}
use Rattle.pec_http_head.specs.Cuts as cuts
use Rattle.pec_http.specs.declared.stops.Stop.{Stop}
use Rattle.pec_http.specs.declared.stops.Stop.TheVariants as stops

-- These are the bytes to come where the connection tells them, and may be any where it doesn't.
abbrev pub IsInput : Option Bytes → Bytes → Type 0
IsInput None input = ⊤
IsInput (Some told) input = told ≡ input

-- Reading failed, or its memory.
abbrev pub IsReadStop : Stop → Type 0
IsReadStop stops.NoMemory = ⊤
IsReadStop stops.ReadFault = ⊤
IsReadStop _ = ⊥

-- Reading stopped before the head was whole, over a connection that had these bytes to come.
abbrev pub StopsHead : Option Bytes → Stop → Type 0
StopsHead left stops.LargeHead = (input : Bytes) × IsInput left input × (cut_of input ≡ cuts.TooLarge)
StopsHead left stops.BadHead = (input : Bytes) × IsInput left input × (cut_of input ≡ cuts.Short)
StopsHead left stop = IsReadStop stop

-- A call took these many bytes off what was left, and put them behind what came.
pub record TakesPiece (left : Option Bytes) (came : Bytes) (left_then : Option Bytes) (came_then : Bytes) (count : ℕ) : Type 0 where
  pub piece : Bytes
  pub count_is : count ≡ length piece
  pub put : came_then ≡ came ++ piece
  pub taken : left ≡ behind piece left_then

-- The same, for any number of bytes.
pub record TakesMore (left : Option Bytes) (came : Bytes) (left_then : Option Bytes) (came_then : Bytes) : Type 0 where
  pub piece : Bytes
  pub put : came_then ≡ came ++ piece
  pub taken : left ≡ behind piece left_then

-- Reading stopped before so many bytes came in all, over a connection that had these to come behind those that came.
abbrev pub StopsBody : Option Bytes → Bytes → ℕ → Stop → Type 0
StopsBody left came until stops.CutBody = (rest : Bytes) × IsInput left rest × (length (came ++ rest) < until)
StopsBody left came until stop = IsReadStop stop
