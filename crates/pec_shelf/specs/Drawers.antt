-- Rows of accounts: `own_rows`, those of one account, and `own_numbered`, these with their places. A row is kept with
-- its place and with its rank among the rows of its account.
use Rattle.std.specs.Prelude.{◌≡◌, ℕ, ◌+◌, Bool, false, List, [], ◌∷◌, ◌++◌, length, map, Option, Some, None, if◌then◌else◌}
use Rattle.std.specs.List.{filter}
use Rattle.std.specs.Str.{bytes_eq}
use Rattle.pec_types.specs.Bytes.{Bytes}

-- A row, its place in the list, its rank among the rows of its account, and how many of these are counted up to it.
pub record RankedRow (R : Type 0) : Type 0 where
  pub row : R
  pub place : ℕ
  pub rank : ℕ
  pub counted : ℕ

abbrev pub rows_in : {R : Type 0} → List (RankedRow R) → List R
rows_in ranked = map (λ r. r.row) ranked

-- a row with its place
abbrev pub placed_row : {R : Type 0} → RankedRow R → ℕ × R
placed_row ranked = (ranked.place, ranked.row)

-- whether a row with this owner is the account's
abbrev pub is_own : Bytes → Option Bytes → Bool
is_own account None = false
is_own account (Some owner) = bytes_eq account owner

module _ {R : Type 0} (owner : R → Option Bytes) where
  -- The rows of an account, in order.
  abbrev pub own_rows : Bytes → List R → List R
  own_rows account rows = filter (λ row. is_own account (owner row)) rows

  -- The rows of an account, each with its place, where the first of all rows has this one.
  abbrev pub own_numbered : Bytes → ℕ → List R → List (ℕ × R)
  own_numbered account place [] = []
  own_numbered account place (row ∷ rows) =
      if is_own account (owner row) then (place, row) ∷ own_numbered account (place + 1) rows
      else own_numbered account (place + 1) rows

  module _ (counts : R → Bool) where
    -- How many rows of an account are counted.
    abbrev pub counted_of : Bytes → List R → ℕ
    counted_of account rows = length (filter counts (own_rows account rows))

    -- a row behind these has its place, its rank and its count
    pub record IsRankOf (front : List R) (ranked : RankedRow R) : Type 0 where
      pub place : ranked.place ≡ length front
      pub rank : (account : Bytes) → owner ranked.row ≡ Some account → ranked.rank ≡ length (own_rows account front)
      pub counted : (account : Bytes) → owner ranked.row ≡ Some account
          → ranked.counted ≡ counted_of account (front ++ ranked.row ∷ [])

    -- each of these, behind the rows in front
    abbrev pub AreRanked : List R → List (RankedRow R) → Type 0
    AreRanked front [] = Unit {0}
    AreRanked front (ranked ∷ more) = IsRankOf front ranked × AreRanked (front ++ ranked.row ∷ []) more
