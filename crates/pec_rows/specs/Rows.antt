-- The ends of a network's links in rows, as the worker of a provider holds them: the ends that put of the links from it,
-- and the ends that take of the links to it, each by the number of the other provider. This project's profile.
use Rattle.std.specs.Prelude.{◌≡◌, ℕ, ◌<◌, ◌≤◌, List, [], ◌++◌, length, map, slice_index_or}
use Rattle.pec_types.specs.Bytes.{Bytes}
use Rattle.pec_link.specs.Ends.{Putting, Ring, Taking}

-- ---- ends that take

-- the frames that a row of takers knows to wait, a list for each sender
abbrev pub waits : List Taking → List (List Bytes)
waits takers = map (λ (taker : Taking). taker.waiting) takers

-- What a taker keeps while it takes: which ring it is of, and all frames up to the last that it knows of.
pub record Known : Type 0 where
  pub ring : Ring
  pub frames : List Bytes

-- that of one
abbrev pub known : Taking → Known
known taker = record { ring = taker.ring; frames = taker.taken ++ taker.waiting }

-- that of each of a row
abbrev pub knowns : List Taking → List Known
knowns takers = map known takers

-- ---- ends that put

-- These frames, a list for each addressee, can be put: there is an end for it, which knows of as many free places.
pub record CanPut (putters : List Putting) (out : List (List Bytes)) : Type 0 where
  pub addressees : length out ≤ length putters
  pub free : (to : ℕ) (other : Putting) → to < length out
      → length (slice_index_or out to []) ≤ (slice_index_or putters to other).free

-- They were put: each list behind all that was put on its link, and nothing else changed there.
pub record ArePut (old : List Putting) (out : List (List Bytes)) (new : List Putting) : Type 0 where
  pub count : length new ≡ length old
  pub ring : (to : ℕ) (other : Putting) → to < length old
      → (slice_index_or new to other).ring ≡ (slice_index_or old to other).ring
  pub put : (to : ℕ) (other : Putting) → to < length old
      → (slice_index_or new to other).put ≡ (slice_index_or old to other).put ++ slice_index_or out to []

-- ---- link by link

-- What waits for a provider behind a round: on each link what was left there, and behind it what was put for it.
pub record IsBehind (to : ℕ) (outs : List (List (List Bytes))) (left new : List (List Bytes)) : Type 0 where
  pub senders : length outs ≤ length left
  pub count : length new ≡ length left
  pub each : (from : ℕ) → from < length left
      → slice_index_or new from [] ≡ slice_index_or left from [] ++ slice_index_or (slice_index_or outs from []) to []
