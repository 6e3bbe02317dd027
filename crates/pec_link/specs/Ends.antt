-- The two ends of a link as contracts see them, and what it is that they are settled (`AreSettled`). What was ever put and
-- taken is kept by rtrb's ring; between the two lie the frames that wait.
use Rattle.std.specs.Prelude.{◌≡◌, ℕ, ◌+◌, ◌≤◌, List, ◌++◌, length, drop}
use Rattle.std.specs.Ptr.{Ptr}
use Rattle.std.specs.declared.alloc.Global.{Global}
use Rattle.rtrb.specs.Shared.{Names}
use Rattle.pec_types.specs.Bytes.{Bytes}
use Rattle.pec_link.specs.declared.ends.TheConstants.{MOST_FRAMES}

-- Which ring an end belongs to.
pub record Ring : Type 0 where
  pub words : Ptr
  pub slots : Ptr
  pub names : Names
  pub heap : Global

-- The end that puts: all that was ever put, oldest first, and the places that it knows to be free.
pub record Putting : Type 0 where
  pub ring : Ring
  pub put : List Bytes
  pub free : ℕ

-- The end that takes: all that was ever taken, oldest first, and the frames that it knows to wait.
pub record Taking : Type 0 where
  pub ring : Ring
  pub taken : List Bytes
  pub waiting : List Bytes

-- They are ends of one link.
abbrev pub ArePair : Putting → Taking → Type 0
ArePair putter taker = putter.ring ≡ taker.ring

-- the frames that wait on a link, known to its taker or not: those that were put and aren't taken
abbrev pub waiting_on : Putting → Taking → List Bytes
waiting_on putter taker = drop (length taker.taken) putter.put

-- Two ends of one link that know of each other: the taker all frames that wait, and the putter all places that are free.
pub record AreSettled (putter : Putting) (taker : Taking) : Type 0 where
  pub pair : putter.ring ≡ taker.ring
  pub fifo : taker.taken ++ taker.waiting ≡ putter.put
  pub free : MOST_FRAMES ≤ putter.free + length taker.waiting
  pub size : length taker.waiting ≤ MOST_FRAMES
