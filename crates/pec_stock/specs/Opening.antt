-- Why the entries on a disk are no provider's own: `IsUnfit`, what is refused when a journal is opened again. This
-- project's profile.
use Rattle.std.specs.Prelude.{◌≡◌, ◌≢◌, ◌⊎◌, ℕ, List, [], ◌∷◌, ◌++◌, length, map, take, slice_get, Option, Some, None}
use Rattle.std.specs.List.{All}
use Rattle.pec_types.specs.Bytes.{Bytes}
use Rattle.pec_journal.specs.JournalFile.{IsBroken, IsFile}
use Rattle.pec_records.specs.Entry.{CanBeWritten, IsEntry, entry_text}
use Rattle.pec_records.specs.declared.entries.Entry.{Entry}
use Rattle.pec_records.specs.declared.entries.Entry.TheVariants as entries
use Rattle.pec_ledger.specs.Ledger.{Begins}
use Rattle.pec_ledger.specs.Steps.{half}
use Rattle.pec_ledger.specs.Trade.{Trade}
use Rattle.pec_ledger.specs.OfDirectory.{IsOf}
use Rattle.pec_chronicle.specs.declared.faults.OpenFault.{OpenFault}
use Rattle.pec_chronicle.specs.declared.faults.OpenFault.TheVariants as opening
use Rattle.pec_directory.specs.Directory.{Kept}
use Rattle.pec_shelf.specs.Prepared.{AreSteps, IsStep}
use Rattle.pec_stock.specs.declared.faults.ReopenFault.{ReopenFault}
use Rattle.pec_stock.specs.declared.faults.ReopenFault.TheVariants as faults
use Rattle.pec_stock.specs.Stock.{IsOwn}

-- a fault of the disk or want of memory, which says nothing of the journal
abbrev pub IsOutside : ReopenFault → Type 0
IsOutside faults.DiskFault = Unit {0}
IsOutside faults.NoMemory = Unit {0}
IsOutside _ = ⊥

-- the fault of a stock that was to be opened again, by that of its entries
abbrev pub as_reopened : OpenFault → ReopenFault
as_reopened opening.DiskFault = faults.DiskFault
as_reopened (opening.NotAJournal place) = faults.NotAJournal place
as_reopened (opening.BadEntry number) = faults.BadEntry number
as_reopened opening.NoMemory = faults.NoMemory

-- ---- entries

-- The entries before this number are steps, and the one of this number isn't.
pub record StopsAt (trade : Trade) (me number : ℕ) (list : List Entry) : Type 0 where
  pub before : AreSteps trade me (take number list)
  pub entry : Entry
  pub is : slice_get list number ≡ Some entry
  pub none : IsStep trade me (half trade me (take number list)) entry → ⊥

-- the digest of a directory that a Start, of either version, keeps
abbrev pub digest_in : Entry → Option Bytes
digest_in (entries.Start number digest) = Some digest
digest_in (entries.StartTwo number digest) = Some digest
digest_in _ = None

-- the digest of the directory that entries were made with, where they begin with a Start
abbrev pub digest_kept : List Entry → Option Bytes
digest_kept [] = None
digest_kept (entry ∷ rest) = digest_in entry

-- They begin with the Start of another directory, whose digest is the kept one.
pub record IsElsewhere (trade : Trade) (list : List Entry) (kept given : Bytes) : Type 0 where
  pub is : digest_kept list ≡ Some kept
  pub given_is : given ≡ trade.digest
  pub differs : kept ≢ given

-- They begin with a Start of this directory.
abbrev pub IsHere : Trade → List Entry → Type 0
IsHere trade list = digest_kept list ≡ Some trade.digest

-- They have no Start; or they begin with one of this directory, and one of them is no step.
abbrev pub IsBad : Trade → ℕ → List Entry → ℕ → Type 0
IsBad trade me list number = ((number ≡ 0) × (Begins list → ⊥)) ⊎ (IsHere trade list × StopsAt trade me number list)

-- Why these entries aren't the provider's own.
abbrev pub NotOwn : Trade → ℕ → List Entry → ReopenFault → Type 0
NotOwn trade me list (faults.OtherDirectory kept given) = IsElsewhere trade list kept given
NotOwn trade me list (faults.BadEntry number) = IsBad trade me list number
NotOwn trade me list faults.NoMemory = Unit {0}
NotOwn trade me list _ = ⊥

-- ---- bytes

-- Behind the entries stands nothing, or bytes that are none.
abbrev pub IsNoEntry : List Bytes → Type 0
IsNoEntry [] = Unit {0}
IsNoEntry (bad ∷ more) = (entry : Entry) → IsEntry entry bad → ⊥

-- The bytes are a journal file, of which these entries are read, and no more.
pub record ReadsTo (bytes : Bytes) (list : List Entry) : Type 0 where
  pub texts : List Bytes
  pub file : IsFile texts bytes
  pub more : List Bytes
  pub is : texts ≡ map entry_text list ++ more
  pub written : All CanBeWritten list
  pub ends : IsNoEntry more

-- all entries that are read are the provider's own, and behind them stands something else
pub record IsCutOff (trade : Trade) (me number : ℕ) (bytes : Bytes) (list : List Entry) : Type 0 where
  pub reads : ReadsTo bytes list
  pub own : IsOwn trade me list
  pub count : number ≡ length list
  pub something : reads.more ≢ []

-- Why the journal that stands in these bytes is refused: they are no journal; it is another directory's; or it has an
-- entry, the first such, that can't be read or is no step. A fault from outside says nothing.
abbrev pub IsUnfit : Trade → ℕ → Bytes → ReopenFault → Type 0
IsUnfit trade me bytes (faults.NotAJournal place) = IsBroken bytes place
IsUnfit trade me bytes (faults.OtherDirectory kept given) = (list : List Entry) × ReadsTo bytes list × IsElsewhere trade list kept given
IsUnfit trade me bytes (faults.BadEntry number) =
    (list : List Entry) × ((ReadsTo bytes list × IsBad trade me list number) ⊎ IsCutOff trade me number bytes list)
IsUnfit trade me bytes _ = Unit {0}
