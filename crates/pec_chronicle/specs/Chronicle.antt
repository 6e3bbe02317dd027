-- A provider's entries over its disk as contracts see them. The headlines are `IsJournalOf`, which bytes are the
-- journal of entries, and `Stands`: what is on the disk, now and after a crash. This project's profile.
use Rattle.std.specs.Prelude.{◌≡◌, ℕ, ◌+◌, ◌≤◌, Bool, false, true, List, ◌++◌, length, map, Option}
use Rattle.std.specs.List.{All}
use Rattle.pec_outside.specs.DiskModel.{Sight}
use Rattle.pec_journal.specs.JournalFile.{IsFile, framing, header}
use Rattle.pec_journal.specs.JournalState.{Keeps}
use Rattle.pec_types.specs.Bytes.{Bytes}
use Rattle.pec_records.specs.declared.entries.Entry.{Entry}
use Rattle.pec_records.specs.Entry.{entry_text, longest_entry, CanBeWritten}
use Rattle.pec_ledger.specs.Network.{chosen}

pub record ChronicleState (D : Type 0) : Type 0 where
  pub entries : List Entry  -- those whose append was answered, oldest first: they are on the disk, and not in memory
  pub interrupted : Option Entry  -- the one whose append answered a fault of the disk: a crash leaves it, or doesn't
  pub down : Bool  -- nothing is appended any more
  pub disk : D
  pub end : ℕ  -- the place of the journal's closed gate, while it is up
  pub spare : ℕ  -- there is room to write an entry of so many bytes

-- The bytes are the journal file of these entries, each of which can be written.
pub record IsJournalOf (entries : List Entry) (bytes : Bytes) : Type 0 where
  pub file : IsFile (map entry_text entries) bytes
  pub written : All CanBeWritten entries

-- How many bytes the journal of one entry has, with the closed gate behind it.
abbrev pub made_size : Entry → ℕ
made_size start = length header + framing + length (entry_text start) + 1

-- While it is up the disk holds the journal of its entries, and a crash leaves nothing else. Whenever it is, a crash
-- leaves the journal of the entries, or of these and the interrupted one.
pub record Stands {D : Type 0} (sight : D → Sight) (state : ChronicleState D) : Type 0 where
  pub up : state.down ≡ false → Keeps (sight state.disk) (map entry_text state.entries) state.end
  pub images : (image : Bytes) → (sight state.disk).may_leave image
      → (choice : Bool) × IsJournalOf (state.entries ++ chosen choice state.interrupted) image

-- An entry can be appended without memory.
pub record HasRoom {D : Type 0} (state : ChronicleState D) (entry : Entry) : Type 0 where
  pub short : length (entry_text entry) ≤ longest_entry
  pub spare : state.down ≡ false → length (entry_text entry) ≤ state.spare

-- What is kept of entries besides their disk.
pub record PastState : Type 0 where
  pub entries : List Entry
  pub interrupted : Option Entry

abbrev pub past_of : {D : Type 0} → ChronicleState D → PastState
past_of state = record { entries = state.entries; interrupted = state.interrupted }

-- these entries over a disk, down
abbrev pub down_over : {D : Type 0} → PastState → D → ChronicleState D
down_over past disk = record {
  entries = past.entries;
  interrupted = past.interrupted;
  down = true;
  disk = disk;
  end = 0;
  spare = 0;
}
