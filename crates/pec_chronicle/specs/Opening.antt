-- A journal that is opened, entry by entry, as contracts see it. The headlines are `Reads`, how far the texts of a
-- journal were read, and `Opens`, what stands on the disk where these are those of entries. This project's profile.
use Rattle.std.specs.Prelude.{◌≡◌, ℕ, ◌+◌, Bool, List, ◌∷◌, ◌++◌, length, map}
use Rattle.std.specs.List.{All}
use Rattle.pec_outside.specs.DiskModel.{Sight}
use Rattle.pec_journal.specs.JournalFile.{framing, front, places_of}
use Rattle.pec_journal.specs.JournalState.{Keeps}
use Rattle.pec_types.specs.Bytes.{Bytes}
use Rattle.pec_types.specs.declared.places.Place.{Place}
use Rattle.pec_records.specs.declared.entries.Entry.{Entry}
use Rattle.pec_records.specs.Entry.{entry_text, CanBeWritten, IsEntry}
use Rattle.pec_ledger.specs.Network.{chosen}
use Rattle.pec_chronicle.specs.Chronicle.{ChronicleState}

pub record OpeningState (D : Type 0) : Type 0 where
  pub disk : D
  pub end : ℕ  -- the place of the journal's closed gate
  pub places : List Place  -- those of all entries, in order
  pub read : List Entry  -- those that were read, in order: they are not in memory

-- where an entry stands that comes behind these
abbrev pub place_behind : List Entry → Entry → Place
place_behind entries entry = record {
  at = length (front (map entry_text entries)) + framing;
  length = length (entry_text entry);
}

-- The disk keeps the journal file of these texts, and the entries that were read are the first of them.
pub record Reads {D : Type 0} (sight : D → Sight) (opening : OpeningState D) (texts : List Bytes) : Type 0 where
  pub keeps : Keeps (sight opening.disk) texts opening.end
  pub places : opening.places ≡ places_of texts
  pub rest : List Bytes
  pub is : texts ≡ map entry_text opening.read ++ rest
  pub written : All CanBeWritten opening.read

-- The disk keeps the journal of these entries, and those that were read are the first of them.
pub record Opens {D : Type 0} (sight : D → Sight) (opening : OpeningState D) (list : List Entry) : Type 0 where
  pub reads : Reads sight opening (map entry_text list)
  pub written : All CanBeWritten list

-- The disk keeps the journal of a chronicle's entries, or of these and the interrupted one.
abbrev pub Finds : {D : Type 0} → (D → Sight) → ChronicleState D → OpeningState D → Type 0
Finds sight was opening = (choice : Bool) × Opens sight opening (was.entries ++ chosen choice was.interrupted)

-- So many texts of a journal file are these entries', and the one behind them is none's.
pub record StopsAtBad (number : ℕ) (entries : List Entry) (texts : List Bytes) : Type 0 where
  pub count : number ≡ length entries
  pub bad : Bytes
  pub more : List Bytes
  pub is : texts ≡ map entry_text entries ++ bad ∷ more
  pub written : All CanBeWritten entries
  pub none : (entry : Entry) → IsEntry entry bad → ⊥
