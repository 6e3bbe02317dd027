-- The disk model: what a disk reads as, and what a crash leaves of it now and since an earlier moment.
-- The headlines are `Torn` (a write), `Only` (after a sync), and `LeavesOnly` and `GrowsTo` (a whole call). This project's
-- profile.
use Rattle.std.specs.Prelude.{◌≡◌, ◌⊎◌, ℕ, ◌+◌, ◌≤◌, max, List, ◌++◌, length, take, drop}

-- A disk as contracts see it. The words below speak of two sights of a disk, one before and one after, and never of
-- the disk's type.
pub record Sight : Type 1 where
  pub seen : List ℕ  -- the bytes that a read gives
  pub may_leave : List ℕ → Type 0  -- the images: the contents that a crash at this moment may leave
  pub moment : ℕ  -- a clock, which doesn't fall
  pub left_since : ℕ → List ℕ → Type 0  -- what a crash at some moment, that one or a later one, may have left

-- A crash leaves these bytes and nothing else.
abbrev pub Only : List ℕ → (List ℕ → Type 0) → Type 0
Only bytes images = (image : List ℕ) → images image → image ≡ bytes

-- the bytes, with a piece written over them at a place
abbrev pub written : List ℕ → ℕ → List ℕ → List ℕ
written bytes at piece = take at bytes ++ piece ++ drop (at + length piece) bytes

-- A write of n bytes at a place that a crash cuts short: any bytes in its range, and past the old end; all others stay.
pub record Torn (at n : ℕ) (old new : List ℕ) : Type 0 where
  pub before : take at new ≡ take at old
  pub behind : drop (at + n) new ≡ drop (at + n) old
  pub no_shorter : length old ≤ length new
  pub no_longer : length new ≤ max (length old) (at + n)

-- Time goes on: what a crash since an earlier moment may have left is what it may have left before, or may leave now.
pub record Elapses (old new : Sight) : Type 0 where
  pub later : old.moment ≤ new.moment
  pub nothing_else : (t : ℕ) (image : List ℕ) → t ≤ old.moment → new.left_since t image
      → old.left_since t image ⊎ new.may_leave image
  pub keeps : (t : ℕ) (image : List ℕ) → t ≤ old.moment → old.left_since t image → new.left_since t image

-- A call that writes nothing: a read gives what it gave, and a crash leaves nothing that it wouldn't have left.
pub record Rests (old new : Sight) : Type 0 where
  pub seen : new.seen ≡ old.seen
  pub crash : (image : List ℕ) → new.may_leave image → old.may_leave image
  pub time : Elapses old new

-- A write of n bytes at a place, whether it was answered or failed: each image is an earlier one with that range torn.
pub record Tears (at n : ℕ) (old new : Sight) : Type 0 where
  pub crash : (image : List ℕ) → new.may_leave image → (was : List ℕ) × old.may_leave was × Torn at n was image
  pub time : Elapses old new

-- A crash at any moment from the old sight to the new one leaves bytes of this kind.
pub record LeavesOnly (old new : Sight) (Kind : List ℕ → Type 0) : Type 0 where
  pub later : old.moment ≤ new.moment
  pub each : (image : List ℕ) → new.left_since old.moment image → Kind image
  -- the same for a longer time that ends with this one
  pub before : (t : ℕ) (image : List ℕ) → t ≤ old.moment → new.left_since t image → old.left_since t image ⊎ Kind image

-- bytes that are no longer than this
abbrev pub IsAtMost : ℕ → List ℕ → Type 0
IsAtMost most bytes = length bytes ≤ most

-- Where no image was longer than so many bytes or more, none is at any moment from the old sight to the new one.
abbrev pub GrowsTo : ℕ → Sight → Sight → Type 0
GrowsTo size old new = (most : ℕ) → size ≤ most → ((image : List ℕ) → old.may_leave image → IsAtMost most image)
    → LeavesOnly old new (IsAtMost most)

-- Calls that write nothing, one after another: a crash at any moment of them leaves what one before them would have left.
pub record Stays (old new : Sight) : Type 0 where
  pub seen : new.seen ≡ old.seen
  pub crash : (image : List ℕ) → new.may_leave image → old.may_leave image
  pub moments : LeavesOnly old new old.may_leave
