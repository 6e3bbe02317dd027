-- How a run comes to its journals, from provider 0 on: `run` makes each on an empty disk, `resume` opens each that is
-- there; one that can't be had ends the run. `IsOpening` says of what was found on disks what came of it. Then what the
-- disks hold when the run is over: `AreLeft`. This project's profile.
use Rattle.std.specs.Prelude.{◌≡◌, ℕ, ◌<◌, ◌≤◌, Bool, true, List, [], ◌∷◌, ◌++◌, length, replicate, slice_get, codes, Option, Some, None, if◌then◌else◌}
use Rattle.std.specs.Str.{bytes_eq}
use Rattle.pec_types.specs.Bytes.{Bytes}
use Rattle.pec_outside.specs.DiskModel.{Sight}
use Rattle.pec_records.specs.declared.entries.Entry.{Entry}
use Rattle.pec_records.specs.declared.entries.Entry.TheVariants as entries
use Rattle.pec_ledger.specs.Network.{Site, chosen, interrupted_at, journal_at}
use Rattle.pec_ledger.specs.Trade.{Trade}
use Rattle.pec_chronicle.specs.Chronicle.{IsJournalOf}
use Rattle.pec_screen.specs.Verdicts.{Patterns}
use Rattle.pec_script.specs.declared.answers.Unfit.{Unfit}
use Rattle.pec_script.specs.declared.answers.Unfit.TheVariants as unfits
use Rattle.pec_stock.specs.Opening.{IsUnfit}
use Rattle.pec_stock.specs.Stock.{IsOwn}
use Rattle.pec_stock.specs.declared.faults.ReopenFault.{ReopenFault}
use Rattle.pec_stock.specs.declared.faults.ReopenFault.TheVariants as faults

-- ---- what disks hold

-- The disks at home, as far as they tell: that a provider's reads as these bytes, and that a crash may leave these.
pub record Disks : Type 1 where
  pub reads : ℕ → Bytes → Type 0
  pub may_leave : ℕ → Bytes → Type 0

-- ---- journals that are made or opened

-- The forms of the program that play a script.
pub data Form : Type 0 where
  Run : Form
  Resume : Form

-- the form that the words are
abbrev pub form_in : List Bytes → Option Form
form_in [] = None
form_in (word ∷ []) =
    if bytes_eq word (codes "run") then Some Run else (if bytes_eq word (codes "resume") then Some Resume else None)
form_in (word ∷ other ∷ words) = None

-- What came of the disk behind the last one whose journal was made or opened.
pub data Next : Type 0 where
  NoMore : Next  -- there are as many journals as providers
  Holds : Next  -- it isn't empty
  Unfits : (unfit : Unfit) → Next  -- it holds no journal of its provider
  Fails : Next  -- it failed, or the depot did
  Stops : Next  -- memory ran out

-- Something is to be written where it is known what came of each disk; of a fault, or for want of memory, nothing is.
abbrev pub HasLines : Next → Type 0
HasLines NoMore = Unit {0}
HasLines Holds = Unit {0}
HasLines (Unfits unfit) = Unit {0}
HasLines Fails = ⊥
HasLines Stops = ⊥

-- The journals that were made or opened, from provider 0 on, and what came of the next disk.
pub record Opening : Type 0 where
  pub journals : List (List Entry)
  pub next : Next

-- the provider whose disk came next
abbrev pub next_of : Opening → ℕ
next_of opening = length opening.journals

-- a journal as the network has it at the beginning: its provider is up, with screens of these patterns, and nothing waits
abbrev pub opened : Trade → List Patterns → List Entry → Site
opened trade boxes journal = record {
  journal = journal;
  up = true;
  interrupted = None;
  screens = boxes;
  waiting = replicate trade.providers [];
}

-- The state at the beginning of a script, with the screens of each provider, from 0 on; one past the lists has none.
abbrev pub opened_all : Trade → List (List Patterns) → List (List Entry) → List Site
opened_all trade screens [] = []
opened_all trade [] (journal ∷ journals) = opened trade [] journal ∷ opened_all trade [] journals
opened_all trade (boxes ∷ screens) (journal ∷ journals) =
    opened trade boxes journal ∷ opened_all trade screens journals

-- why a journal wasn't opened, in the words of the calls below
abbrev pub fault_of : Unfit → ReopenFault
fault_of (unfits.Journal place) = faults.NotAJournal place
fault_of (unfits.Directory kept given) = faults.OtherDirectory kept given
fault_of (unfits.Entry number) = faults.BadEntry number

module _ (trade : Trade) (disks : Disks) where
  -- A journal was made on an empty disk, with its StartTwo alone, or these are the provider's own entries that its disk
  -- holds.
  abbrev pub IsHad : Form → ℕ → List Entry → Type 0
  IsHad Run provider journal =
      (journal ≡ entries.StartTwo provider trade.digest ∷ []) × ((bytes : Bytes) → disks.reads provider bytes → bytes ≡ [])
  IsHad Resume provider journal =
      IsOwn trade provider journal × ((bytes : Bytes) → disks.reads provider bytes → IsJournalOf journal bytes)

  -- Only `run` asks for an empty disk, and only `resume` reads what a disk holds; and only a provider's is told to hold
  -- what it may not.
  abbrev pub IsNext : Form → ℕ → Next → Type 0
  IsNext form provider NoMore = provider ≡ trade.providers
  IsNext form provider Holds =
      (form ≡ Run) × ((bytes : Bytes) → disks.reads provider bytes → 0 < length bytes) × (provider < trade.providers)
  IsNext form provider (Unfits unfit) =
      (form ≡ Resume) × ((bytes : Bytes) → disks.reads provider bytes → IsUnfit trade provider bytes (fault_of unfit))
      × (provider < trade.providers)
      × ((bytes : Bytes) → disks.reads provider bytes → (list : List Entry) → IsOwn trade provider list
      → IsJournalOf list bytes → ⊥)
  IsNext form provider Fails = Unit {0}
  IsNext form provider Stops = Unit {0}

  -- What was found on the disks is what the opening says.
  pub record IsOpening (form : Form) (opening : Opening) : Type 0 where
    pub count : next_of opening ≤ trade.providers
    pub each : (provider : ℕ) (journal : List Entry) → slice_get opening.journals provider ≡ Some journal
        → IsHad form provider journal
    pub next : IsNext form (next_of opening) opening.next

-- ---- what is left

-- The disk's bytes are the provider's journal, with its interrupted entry or without it.
abbrev pub IsLeft : List Site → ℕ → Bytes → Type 0
IsLeft sites provider bytes =
    (choice : Bool) × IsJournalOf (journal_at sites provider ++ chosen choice (interrupted_at sites provider)) bytes

-- A provider's disk, which held these bytes, is untouched: it reads so, and a crash leaves nothing that it wouldn't have
-- left before.
pub record IsUntouched (old new : Disks) (provider : ℕ) (was : Bytes) : Type 0 where
  pub reads : (bytes : Bytes) → new.reads provider bytes → bytes ≡ was
  pub crash : (image : Bytes) → new.may_leave provider image → old.may_leave provider image

-- A disk that came to nothing, and held these bytes, has to be untouched; but for an empty one on which a journal was
-- being made.
abbrev pub IsSpared : Form → Next → Bytes → Type 0
IsSpared Run Fails was = 0 < length was
IsSpared Run Stops was = 0 < length was
IsSpared _ _ was = Unit {0}

-- The disks, once the run is over: each whose journal was made or opened reads as that, and a crash leaves nothing
-- else; the others are untouched.
pub record AreLeft (old new : Disks) (form : Form) (opening : Opening) (sites : List Site) : Type 0 where
  pub reads : (provider : ℕ) → provider < next_of opening → (bytes : Bytes) → new.reads provider bytes
      → IsLeft sites provider bytes
  pub crash : (provider : ℕ) → provider < next_of opening → (bytes : Bytes) → new.may_leave provider bytes
      → IsLeft sites provider bytes
  pub next : (was : Bytes) → old.reads (next_of opening) was → IsSpared form opening.next was
      → IsUntouched old new (next_of opening) was
  pub others : (provider : ℕ) → next_of opening < provider → (was : Bytes) → old.reads provider was
      → IsUntouched old new provider was

-- No disk was asked for, and none was written.
abbrev pub AreUntouched : Disks → Disks → Type 0
AreUntouched old new = (provider : ℕ) (was : Bytes) → old.reads provider was → IsUntouched old new provider was

-- ---- a depot

-- The disks that a depot has at home, where it and they tell what they hold.
abbrev pub disks_at : {D : Type 0} → Type 0 → (D → Sight) → (ℕ → Option D) → Disks
disks_at {D} tells sight home = record {
  reads = λ provider bytes. tells × ((disk : D) × (home provider ≡ Some disk) × ((sight disk).seen ≡ bytes));
  may_leave = λ provider bytes. tells × ((disk : D) × (home provider ≡ Some disk) × (sight disk).may_leave bytes);
}
