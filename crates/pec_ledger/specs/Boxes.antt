-- The two boxes of an account: its mailbox, and the archive into which items are moved from there. `boxes_of` says what
-- they come to, by all items that were ever placed with the account, and by the places of the mailbox from which items
-- were moved. An item is placed behind those that stand, so a place means the same item whatever is placed later, and
-- placing and moving need no common order. This project's profile.
use Rattle.std.specs.Prelude.{ℕ, zero, suc, ◌<◌, List, [], ◌∷◌, ◌++◌, length, fold, slice_get}
use Rattle.std.specs.Option.{option_to_list}
use Rattle.pec_ledger.specs.Along.{AllAlong}
use Rattle.pec_ledger.specs.Half.{Posted}

-- The items of both boxes: those of the mailbox in order of placing, those of the archive in the order in which they
-- were moved there.
pub record Boxes : Type 0 where
  pub mailbox : List Posted
  pub archive : List Posted

-- items without the one at a place, from 0: those behind it stand one place further down
abbrev pub without_at : List Posted → ℕ → List Posted
without_at [] place = []
without_at (posted ∷ items) zero = items
without_at (posted ∷ items) (suc place) = posted ∷ without_at items place

-- The item at a place of the mailbox becomes the last one of the archive; where there is none nothing does.
abbrev pub moved : Boxes → ℕ → Boxes
moved boxes place = record {
  mailbox = without_at boxes.mailbox place;
  archive = boxes.archive ++ option_to_list (slice_get boxes.mailbox place);
}

-- all items in the mailbox
abbrev pub unmoved : List Posted → Boxes
unmoved items = record { mailbox = items; archive = [] }

-- The boxes of an account with which these items were placed, in this order, and whose items at these places were
-- moved, one after the other.
unfoldable pub boxes_of : List Posted → List ℕ → Boxes
boxes_of items places = fold moved (unmoved items) places

-- boxes with more items behind those of the mailbox
abbrev pub with_more : Boxes → List Posted → Boxes
with_more boxes more = record { mailbox = boxes.mailbox ++ more; archive = boxes.archive }

-- At each of the places the mailbox had an item when it was moved.
abbrev pub AllWithin : Boxes → List ℕ → Type 0
AllWithin boxes places = AllAlong moved (λ (now : Boxes) (place : ℕ). place < length now.mailbox) boxes places
