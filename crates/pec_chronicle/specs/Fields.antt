-- A chronicle, and a journal that is opened, as the program keeps them. This project's profile.
use Rattle.std.specs.Prelude.{◌≡◌, ℕ, ◌≤◌, Bool, false, List, length, map, Option, None, IfSome}
use Rattle.std.specs.List.{All}
use Rattle.pec_journal.specs.JournalFile.{front}
use Rattle.pec_records.specs.Entry.{entry_text}
use Rattle.pec_records.specs.declared.entries.Entry.{Entry}
use Rattle.pec_records.specs.Entry.{CanBeWritten}
use Rattle.pec_chronicle.specs.declared.drives.Drive.{Drive}
use Rattle.pec_chronicle.specs.declared.drives.Drive.TheVariants as drives

abbrev pub disk_in : {D : Type 0} → Drive D → D
disk_in (drives.Open journal) = journal.disk
disk_in (drives.Shut disk) = disk

abbrev pub end_in : {D : Type 0} → Drive D → ℕ
end_in (drives.Open journal) = journal.end
end_in (drives.Shut disk) = 0

abbrev pub spare_in : {D : Type 0} → Drive D → ℕ
spare_in (drives.Open journal) = journal.spare
spare_in (drives.Shut disk) = 0

-- the journal is open, and takes entries
abbrev pub IsReady : {D : Type 0} → Drive D → Type 0
IsReady (drives.Open journal) = journal.spent ≡ false
IsReady (drives.Shut disk) = ⊥

-- Each of the entries can be written.
pub record IsPast (entries : List Entry) (interrupted : Option Entry) : Type 0 where
  pub written : All CanBeWritten entries
  pub also : IfSome interrupted CanBeWritten

-- What is true of every chronicle: its entries can be written, and while it is up the journal takes more.
pub record IsChronicle {D : Type 0} (drive : Drive D) (entries : List Entry) (interrupted : Option Entry) (down : Bool)
    : Type 0 where
  pub past : IsPast entries interrupted
  pub whole : down ≡ false → interrupted ≡ None
  pub ready : down ≡ false → IsReady drive

-- What is true of every journal that is opened: as many entries were read as were counted, each can be written, they
-- end at this place, and the journal takes more.
pub record IsOpening (spent : Bool) (read : List Entry) (places : ℕ) (count behind : ℕ) : Type 0 where
  pub ready : spent ≡ false
  pub written : All CanBeWritten read
  pub counted : count ≡ length read
  pub within : count ≤ places
  pub ends : behind ≡ length (front (map entry_text read))
