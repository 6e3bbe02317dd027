-- A provider's stock: its entries over its disk and its half of the ledger. `Agree` says that they are one provider's. This
-- project's profile.
use Rattle.std.specs.Prelude.{◌≡◌, ℕ, ◌<◌, Bool, false, List, ◌++◌, map, None}
use Rattle.pec_types.specs.declared.moments.TheConstants.{END_OF_TIME}
use Rattle.pec_directory.specs.Canonical.{digest_of}
use Rattle.pec_directory.specs.Directory.{Kept, providers_of}
use Rattle.pec_journal.specs.JournalFile.{places_of}
use Rattle.pec_records.specs.Entry.{entry_text}
use Rattle.pec_records.specs.declared.entries.Entry.{Entry}
use Rattle.pec_records.specs.declared.entries.Entry.TheVariants as entries
use Rattle.pec_ledger.specs.Deadlines.{last_tick}
use Rattle.pec_ledger.specs.Ledger.{Begins}
use Rattle.pec_ledger.specs.Network.{chosen}
use Rattle.pec_ledger.specs.OfDirectory.{IsOf}
use Rattle.pec_ledger.specs.Steps.{half}
use Rattle.pec_ledger.specs.Trade.{Trade}
use Rattle.pec_shelf.specs.Prepared.{AreSteps}
use Rattle.pec_shelf.specs.Seen.{IsFor, Seen}
use Rattle.pec_chronicle.specs.Chronicle.{ChronicleState, made_size}

-- The half of a shelf is what these entries of its provider come to, in every world of the directory, its last clock
-- call is theirs, and its places are those at which they stand in their journal.
pub record Holds (kept : List Kept) (shelf : Seen) (list : List Entry) : Type 0 where
  pub is_half : (trade : Trade) → IsOf kept trade → shelf.half ≡ half trade shelf.me list
  pub homes : (trade : Trade) → IsOf kept trade → IsFor trade shelf
  pub in_range : shelf.half.last < END_OF_TIME
  pub ticked : shelf.ticked ≡ last_tick list
  pub places : shelf.places ≡ places_of (map entry_text list)

-- These are entries of a provider's journal: they begin with its Start, and each is a step of the half before it.
pub record IsOwn (trade : Trade) (me : ℕ) (list : List Entry) : Type 0 where
  pub begins : Begins list
  pub steps : AreSteps trade me list

-- A shelf and entries over a disk are one provider's: the half is what the entries come to, the places are theirs, and the
-- journal ends where the half says while it is up; an interrupted entry is there only while it is down, and would be one of
-- the provider's too.
pub record Agree {D : Type 0} (kept : List Kept) (chronicle : ChronicleState D) (shelf : Seen) : Type 0 where
  pub holds : Holds kept shelf chronicle.entries
  pub ends : chronicle.down ≡ false → chronicle.end ≡ shelf.half.end
  pub whole : chronicle.down ≡ false → chronicle.interrupted ≡ None
  pub own : (trade : Trade) → IsOf kept trade → (choice : Bool)
      → IsOwn trade shelf.me (chronicle.entries ++ chosen choice chronicle.interrupted)

-- how many bytes the journal of a provider of this directory has as it is made, with its Start alone
abbrev pub size_made : List Kept → ℕ → ℕ
size_made kept me = made_size (entries.StartTwo me (digest_of (providers_of kept)))
