-- Items that were moved from mailboxes into archives, as a shelf keeps them: `Moved`, a move with the rank of its item
-- among all that were ever placed with the account. `rank_at` says which item stands at a place of a mailbox from which
-- others were moved. This project's profile.
use Rattle.std.specs.Prelude.{◌≡◌, ℕ, zero, suc, ◌+◌, nat_le, Bool, List, [], ◌∷◌, map, fold, filter, slice_get, Some, if◌then◌else◌}
use Rattle.std.specs.List.{All, remove}
use Rattle.std.specs.Option.{option_map}
use Rattle.std.specs.Str.{bytes_eq}
use Rattle.pec_types.specs.Bytes.{Bytes}
use Rattle.pec_ledger.specs.Boxes.{Boxes, boxes_of}
use Rattle.pec_ledger.specs.Half.{Move, Posted}
use Rattle.pec_ledger.specs.Lookups.{takes_room}

-- A move, the rank of its item among all that were ever placed with the account, from 0, and whether it took room.
pub record Moved : Type 0 where
  pub what : Move
  pub rank : ℕ
  pub took : Bool

-- the moves of items into archives
abbrev pub moves_of : List Moved → List Move
moves_of moved = map (λ (m : Moved). m.what) moved

-- those items that were placed with an account
abbrev pub items_of : Bytes → List Posted → List Posted
items_of account items = filter (λ (posted : Posted). bytes_eq account posted.account) items

-- the mailbox and the archive of an account, where these items were ever placed, and these moves made
abbrev pub boxes_at : Bytes → List Posted → List Move → Boxes
boxes_at account items moves =
    boxes_of (items_of account items) (map (λ (move : Move). move.place) (filter (λ (move : Move). bytes_eq account move.account) moves))

-- those moves that are an account's
abbrev pub own_moved : Bytes → List Moved → List Moved
own_moved account moved = filter (λ (m : Moved). bytes_eq account m.what.account) moved

-- the places from which an account's items were moved
abbrev pub places_of : Bytes → List Moved → List ℕ
places_of account moved = map (λ (m : Moved). m.what.place) (own_moved account moved)

-- ---- which item stands at a place

-- the place that an item had before the one at another place was moved
abbrev pub raised_by : ℕ → ℕ → ℕ
raised_by moved place = if nat_le moved place then place + 1 else place

-- The rank of the item at a place of a mailbox from which the items at these places were moved, one after the other.
abbrev pub rank_at : List ℕ → ℕ → ℕ
rank_at [] place = place
rank_at (moved ∷ places) place = raised_by moved (rank_at places place)

-- the ranks of the items that were moved from these places, one after the other
abbrev pub ranks_of : List ℕ → List ℕ
ranks_of [] = []
ranks_of (place ∷ places) = place ∷ map (raised_by place) (ranks_of places)

-- the ranks of those that stay, of these
abbrev pub ranks_left : List ℕ → List ℕ → List ℕ
ranks_left ranks places = fold remove ranks places

-- ---- what a shelf keeps

-- An item of this rank was placed with the account, and it took room or it didn't
abbrev pub IsThere : List Posted → Moved → Type 0
IsThere items moved = option_map (λ (posted : Posted). takes_room posted.item) (slice_get items moved.rank) ≡ Some moved.took

-- The moves are kept with the ranks of their items, and with whether these took room.
pub record AreMoved (items : List Posted) (moved : List Moved) : Type 0 where
  pub ranks : (account : Bytes) → map (λ (m : Moved). m.rank) (own_moved account moved) ≡ ranks_of (places_of account moved)
  pub there : (account : Bytes) → All (IsThere (items_of account items)) (own_moved account moved)

-- All items that were ever placed in mailboxes, the moves, and for how many further items and moves there is memory.
pub record Stored : Type 0 where
  pub items : List Posted
  pub moves : List Move
  pub room : ℕ

-- for how many further items there is memory, where there is some for so many further moves
abbrev pub room_beside : ℕ → ℕ → ℕ
room_beside zero room = 0
room_beside (suc moves) room = room
