-- How entries over a disk go on from call to call: `GoesOn`, and `CarriesOn`, which says it of the list, of the disk,
-- and of every moment at which a crash may come. Both are free of any trade: `May` says which entry may follow a list.
-- This project's profile.
use Rattle.std.specs.Prelude.{◌≡◌, ℕ, Bool, List, [], ◌∷◌, ◌++◌, Option}
use Rattle.pec_outside.specs.DiskModel.{Sight, LeavesOnly}
use Rattle.pec_types.specs.Bytes.{Bytes}
use Rattle.pec_records.specs.declared.entries.Entry.{Entry}
use Rattle.pec_ledger.specs.Along.{AllAlong}
use Rattle.pec_ledger.specs.Network.{FollowsState, Site, chosen}
use Rattle.pec_ledger.specs.Trade.{Trade}
use Rattle.pec_chronicle.specs.Chronicle.{ChronicleState, IsJournalOf, Stands}

-- which entry may follow a list of entries
abbrev pub Following : Type 1
Following = List Entry → Entry → Type 0

abbrev pub with_entry : List Entry → Entry → List Entry
with_entry list entry = list ++ entry ∷ []

-- Each of these entries may follow the list and those before it.
abbrev pub AllFollow : Following → List Entry → List Entry → Type 0
AllFollow May list further = AllAlong with_entry May list further

-- nothing follows
abbrev pub NothingMay : Following
NothingMay list entry = ⊥

-- this entry follows this list, and nothing else follows anything
abbrev pub ThisMay : List Entry → Entry → Following
ThisMay here this list entry = (list ≡ here) × (entry ≡ this)

-- A list that goes on from this one: it stands first, then the interrupted entry or nothing, then further entries, each
-- of which may follow.
pub record GoesOn (May : Following) (old : List Entry) (interrupted : Option Entry) (list : List Entry) : Type 0 where
  pub choice : Bool
  pub further : List Entry
  pub is : list ≡ old ++ (chosen choice interrupted ++ further)
  pub follow : AllFollow May (old ++ chosen choice interrupted) further

-- bytes that are the journal of a list that goes on from this one
abbrev pub IsImage : Following → List Entry → Option Entry → Bytes → Type 0
IsImage May old interrupted bytes = (list : List Entry) × GoesOn May old interrupted list × IsJournalOf list bytes

-- bytes that are the journal of a list that follows a provider's in a state of a network
abbrev pub FollowsSo : Trade → List Site → ℕ → Bytes → Type 0
FollowsSo trade state provider bytes =
    (list : List Entry) × FollowsState trade state provider list × IsJournalOf list bytes

-- From the old value to the new one: the entries go on, whichever choice of the interrupted one; what is kept stands on
-- the disk again; and at any moment between them a crash leaves the journal of entries that go on from the old ones.
pub record CarriesOn {D : Type 0} (sight : D → Sight) (May : Following) (old new : ChronicleState D) : Type 0 where
  pub list : Stands sight old → (choice : Bool)
      → GoesOn May old.entries old.interrupted (new.entries ++ chosen choice new.interrupted)
  pub stands : Stands sight old → Stands sight new
  pub images : Stands sight old → LeavesOnly (sight old.disk) (sight new.disk) (IsImage May old.entries old.interrupted)
