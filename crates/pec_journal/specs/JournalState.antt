-- A journal over its disk as contracts see it. The headline is `Keeps`: a crash leaves exactly the file of its entries.
use Rattle.std.specs.Prelude.{◌≡◌, ℕ, Bool, List, length}
use Rattle.pec_outside.specs.DiskModel.{Sight, Only}
use Rattle.pec_journal.specs.JournalFile.{IsFile, front}

pub record JournalState (D : Type 0) : Type 0 where
  pub disk : D
  pub end : ℕ  -- the place of the closed gate
  pub spent : Bool  -- an append answered a fault of the disk
  pub spare : ℕ  -- there is room to frame an entry of so many bytes

-- The disk reads as the file of these entries, a crash leaves nothing else, and they end at this place.
pub record Keeps (disk : Sight) (entries : List (List ℕ)) (place : ℕ) : Type 0 where
  pub file : IsFile entries disk.seen
  pub durable : Only disk.seen disk.may_leave
  pub ends : place ≡ length (front entries)
