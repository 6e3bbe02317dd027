-- How links are taken apart for a round, and put together behind it: the ends that put stand in rows by the provider that
-- puts, the ends that take in rows by the provider that takes. This project's profile.
use Rattle.std.specs.Prelude.{◌≡◌, ℕ, ◌+◌, ◌<◌, ◌≤◌, List, [], ◌∷◌, ◌++◌, length, map, drop, slice_index_or, Vec, vec_capacity}
use Rattle.std.specs.declared.alloc.Global.{Global}
use Rattle.pec_link.specs.Ends.{ArePair, AreSettled, Putting, Taking, waiting_on}
use Rattle.pec_posts.specs.Arrivals.{Waiting, waiting_for, waiting_from}
use Rattle.pec_rows.specs.Rows.{waits}

-- ---- memory

-- An empty list with room for so many elements.
pub record HasRoom {X : Type 0} (count : ℕ) (list : Vec X Global) : Type 0 where
  pub none : list.items ≡ []
  pub room : count ≤ vec_capacity list

-- ---- ends in rows

-- the ends of these lists
abbrev pub ends_in : List (Vec Putting Global) → List (List Putting)
ends_in rows = map (λ (row : Vec Putting Global). row.items) rows

-- The ends of the links among so many providers stand in rows, and what is said of both ends holds of each link.
pub record AreRows (Holds : Putting → Taking → Type 0) (count : ℕ) (putters : List (List Putting)) (takers : List (List Taking)) : Type 0 where
  pub senders : length putters ≡ count
  pub addressees : length takers ≡ count
  pub putting : (from : ℕ) → from < count → length (slice_index_or putters from []) ≡ count
  pub taking : (to : ℕ) → to < count → length (slice_index_or takers to []) ≡ count
  pub ends : (from to : ℕ) (putter : Putting) (taker : Taking) → from < count → to < count
      → Holds (slice_index_or (slice_index_or putters from []) to putter) (slice_index_or (slice_index_or takers to []) from taker)

-- These are the links of such ends: on each waits what was put there and isn't taken.
pub record AreJoined (count : ℕ) (putters : List (List Putting)) (takers : List (List Taking)) (arrivals : List Waiting) : Type 0 where
  pub addressees : length arrivals ≡ count
  pub senders : (to : ℕ) → to < count → length (waiting_for arrivals to) ≡ count
  pub waiting : (from to : ℕ) (putter : Putting) (taker : Taking) → from < count → to < count
      → waiting_from (waiting_for arrivals to) from
      ≡ waiting_on (slice_index_or (slice_index_or putters from []) to putter) (slice_index_or (slice_index_or takers to []) from taker)

-- ---- one provider's links

-- These are the ends of its links: one that puts for each that takes, and they are settled.
pub record AreColumn (putters : List Putting) (takers : List Taking) : Type 0 where
  pub count : length putters ≡ length takers
  pub settled : (from : ℕ) (putter : Putting) (taker : Taking) → from < length takers
      → AreSettled (slice_index_or putters from putter) (slice_index_or takers from taker)

-- Each row got an end of a list, from the first on; where the list is shorter, the others are as they were.
pub record AreAdded (old : List (Vec Putting Global)) (column : List Putting) (new : List (Vec Putting Global)) : Type 0 where
  pub count : length new ≡ length old
  pub few : length column ≤ length old
  pub added : (from : ℕ) (row : Vec Putting Global) (putter : Putting) → from < length column
      → (slice_index_or new from row).items ≡ (slice_index_or old from row).items ++ slice_index_or column from putter ∷ []
  pub longer : (from : ℕ) (row : Vec Putting Global) → from < length column
      → length (slice_index_or new from row).items ≡ length (slice_index_or old from row).items + 1
  pub same : (from : ℕ) (row : Vec Putting Global) → length column ≤ from → slice_index_or new from row ≡ slice_index_or old from row
  pub capacity : (from : ℕ) (row : Vec Putting Global)
      → vec_capacity (slice_index_or new from row) ≡ vec_capacity (slice_index_or old from row)

-- Its links were taken apart: each row got the end that puts of one.
pub record IsParted (links : Waiting) (old new : List (Vec Putting Global)) (takers : List Taking) : Type 0 where
  pub column : List Putting
  pub added : AreAdded old column new
  pub ends : AreColumn column takers
  pub waiting : waits takers ≡ links

-- Each of the first so many rows lost its first end; the others are as they were.
pub record AreShorter (old : List (List Putting)) (count : ℕ) (new : List (List Putting)) : Type 0 where
  pub rows : length new ≡ length old
  pub shorter : (from : ℕ) → from < count → slice_index_or new from [] ≡ drop 1 (slice_index_or old from [])
  pub same : (from : ℕ) → count ≤ from → slice_index_or new from [] ≡ slice_index_or old from []

-- The first ends of rows are ends of one link with these.
pub record ArePaired (rows : List (List Putting)) (takers : List Taking) : Type 0 where
  pub some : (from : ℕ) → from < length takers → 0 < length (slice_index_or rows from [])
  pub pair : (from : ℕ) (putter : Putting) (taker : Taking) → from < length takers
      → ArePair (slice_index_or (slice_index_or rows from []) 0 putter) (slice_index_or takers from taker)

-- These are the links of the first ends of rows and of these.
pub record IsJoined (rows : List (List Putting)) (takers : List Taking) (links : Waiting) : Type 0 where
  pub count : length links ≡ length takers
  pub waiting : (from : ℕ) (putter : Putting) (taker : Taking) → from < length takers
      → waiting_from links from
      ≡ waiting_on (slice_index_or (slice_index_or rows from []) 0 putter) (slice_index_or takers from taker)
