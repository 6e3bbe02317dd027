-- How many rows of some an account has: `IsTallyOf`.
use Rattle.std.specs.Prelude.{◌≡◌, Bool, List, length, Option}
use Rattle.pec_types.specs.Bytes.{Bytes}
use Rattle.pec_shelf.specs.Drawers.{counted_of, own_rows}
use Rattle.pec_shelf.specs.declared.drawers.Tally.{Tally}

-- So many rows are the account's, and so many of these are counted.
pub record IsTallyOf {R : Type 0} (owner : R → Option Bytes) (counts : R → Bool) (account : Bytes) (rows : List R) (tally : Tally) : Type 0
  where
    pub rows_are : tally.rows ≡ length (own_rows owner account rows)
    pub counted_are : tally.counted ≡ counted_of owner counts account rows
