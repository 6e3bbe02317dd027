-- How a network begins: each provider's journal is made on an empty disk, or the one that is there is opened, from
-- provider 0 on, until a disk comes to nothing. `AllBegun` says of each provider what its disk held, and `IsRefused`
-- what came of the disks where the network doesn't begin. This project's profile.
use Rattle.std.specs.Prelude.{◌≡◌, ◌⊎◌, ℕ, ◌<◌, ◌≤◌, true, List, [], ◌∷◌, length, map, replicate, slice_index_or}
use Rattle.std.specs.Prelude.{Option, Some, None}
use Rattle.pec_types.specs.Bytes.{Bytes}
use Rattle.pec_outside.specs.DiskModel.{GrowsTo, Sight, Stays}
use Rattle.pec_outside.specs.Flow.{HasRisen}
use Rattle.pec_directory.specs.Canonical.{digest_of}
use Rattle.pec_directory.specs.Directory.{Kept, providers_of}
use Rattle.pec_records.specs.declared.entries.Entry.{Entry}
use Rattle.pec_records.specs.declared.entries.Entry.TheVariants as entries
use Rattle.pec_ledger.specs.Network.{Site}
use Rattle.pec_ledger.specs.OfDirectory.{IsOf}
use Rattle.pec_ledger.specs.Trade.{Trade}
use Rattle.pec_chronicle.specs.Chronicle.{IsJournalOf, Stands}
use Rattle.pec_screen.specs.Verdicts.{Patterns}
use Rattle.pec_stock.specs.Opening.{IsUnfit}
use Rattle.pec_stock.specs.Stock.{IsOwn, size_made}
use Rattle.pec_stock.specs.declared.faults.ReopenFault.{ReopenFault}
use Rattle.pec_stock.specs.declared.faults.ReopenFault.TheVariants as reopen
use Rattle.pec_provider.specs.Provider.{ProviderState, desk_of, fresh}
use Rattle.pec_network.specs.Network.{behind_first, first_of}
use Rattle.pec_network.specs.declared.faults.NotFit.{NotFit}
use Rattle.pec_network.specs.declared.faults.NotFit.TheVariants as unfits
use Rattle.pec_network.specs.declared.faults.StartFault.{StartFault}
use Rattle.pec_network.specs.declared.faults.StartFault.TheVariants as faults
use Rattle.pec_network.specs.declared.opening.Form.{Form}
use Rattle.pec_network.specs.declared.opening.Form.TheVariants as forms

-- ---- sites

-- A site as a network of so many providers begins: its provider is up, over this journal, its screens have these patterns,
-- and nothing waits for it.
abbrev pub rested : ℕ → List Patterns → List Entry → Site
rested count screens journal =
    record { journal = journal; up = true; interrupted = None; screens = screens; waiting = replicate count [] }

-- The sites of these journals, each with the screens at its number, and none past their end.
abbrev pub all_rested_of : ℕ → List (List Patterns) → List (List Entry) → List Site
all_rested_of count screens [] = []
all_rested_of count screens (journal ∷ journals) =
    rested count (first_of screens) journal ∷ all_rested_of count (behind_first screens) journals

-- The sites as the network begins.
abbrev pub all_rested : List (List Patterns) → List (List Entry) → List Site
all_rested screens journals = all_rested_of (length journals) screens journals

-- the journals of providers, by their numbers
abbrev pub journals_had : {D : Type 0} → List (ProviderState D) → List (List Entry)
journals_had providers = map (λ provider. provider.chronicle.entries) providers

-- ---- providers that have begun

-- A provider's journal: it was made, of version 2, with its Start alone; or it is one that was opened, of its own entries.
abbrev pub IsHad : Form → List Kept → ℕ → List Entry → Type 0
IsHad forms.Make kept me journal = journal ≡ entries.StartTwo me (digest_of (providers_of kept)) ∷ []
IsHad forms.Open kept me journal = (trade : Trade) → IsOf kept trade → IsOwn trade me journal

-- what its disk held before: nothing, or that journal
abbrev pub IsHeld : Form → List Entry → Bytes → Type 0
IsHeld forms.Make journal bytes = bytes ≡ []
IsHeld forms.Open journal bytes = IsJournalOf journal bytes

-- What the disk goes through. While a journal is opened nothing is written; while one is made, no image is longer at any
-- moment than that journal, or than one was before.
abbrev pub IsOpenedFrom : Form → List Kept → ℕ → Sight → Sight → Type 0
IsOpenedFrom forms.Make kept me old new = GrowsTo (size_made kept me) old new
IsOpenedFrom forms.Open kept me old new = Stays old new

-- ---- refusals

-- why a journal isn't opened, as the provider says it
abbrev pub reopened_as : NotFit → ReopenFault
reopened_as (unfits.Journal place) = reopen.NotAJournal place
reopened_as (unfits.OtherDirectory kept given) = reopen.OtherDirectory kept given
reopened_as (unfits.BadEntry number) = reopen.BadEntry number

-- A refusal comes in this form, and names the provider whose disk came to nothing.
abbrev pub IsAbout : Form → ℕ → StartFault → Type 0
IsAbout forms.Make me (faults.NotEmpty number) = number ≡ me
IsAbout forms.Open me (faults.NotFit number why) = number ≡ me
IsAbout _ me (faults.DiskFault number) = number ≡ me
IsAbout _ me faults.NoMemory = Unit {0}
IsAbout _ me _ = ⊥

-- These bytes are no journal of the provider's own, and this is why.
pub record IsNotOwn (kept : List Kept) (me : ℕ) (bytes : Bytes) (why : NotFit) : Type 0 where
  pub unfit : (trade : Trade) → IsOf kept trade → IsUnfit trade me bytes (reopened_as why)
  pub none : (trade : Trade) (list : List Entry) → IsOf kept trade → IsOwn trade me list → IsJournalOf list bytes → ⊥

-- What a refusal says of the bytes that the provider's disk held.
abbrev pub Says : List Kept → ℕ → Bytes → StartFault → Type 0
Says kept me bytes (faults.NotEmpty number) = 0 < length bytes
Says kept me bytes (faults.NotFit number why) = IsNotOwn kept me bytes why
Says kept me bytes _ = Unit {0}

-- Nothing was written on a disk that held a byte: a journal that was there survives, at every moment.
abbrev pub IsUnwritten : Sight → Sight → Type 0
IsUnwritten old new = 0 < length old.seen → Stays old new

-- On the disk that came to nothing nothing was written; but on an empty one, on which a journal was being made.
abbrev pub IsLeft : Form → StartFault → Sight → Sight → Type 0
IsLeft forms.Make (faults.DiskFault number) old new = IsUnwritten old new
IsLeft forms.Make faults.NoMemory old new = IsUnwritten old new
IsLeft _ _ old new = Stays old new

-- A fault of a disk is told only where the depot's count of faults rose, or that of the disk as it last stood at home.
abbrev pub BlamesDisk : (old new : ℕ) → (last left : ℕ → ℕ) → StartFault → Type 0
BlamesDisk old new last left (faults.DiskFault number) = HasRisen old new ⊎ HasRisen (last number) (left number)
BlamesDisk old new last left _ = Unit {0}

-- ---- disks

-- Of these disks a provider's is one whose count of faults is no lower than when it last stood at home.
abbrev pub NoneFell : {D : Type 0} → (D → ℕ) → (ℕ → ℕ) → List (ProviderState D) → Type 0
NoneFell {D} faults last providers =
    (number : ℕ) (other : ProviderState D) → number < length providers
    → last number ≤ faults (slice_index_or providers number other).chronicle.disk

-- `tells`: whether a depot tells its disks; `reads`: whether these tell what they hold.
module _ {D : Type 0} (tells reads : Type 0) (sight : D → Sight) (kept : List Kept) (form : Form) where
  -- A provider of this number has begun, over the disk that was at home: it is up, and nothing is owed.
  pub record IsBegun (me : ℕ) (home : Option D) (provider : ProviderState D) : Type 0 where
    pub desk : desk_of provider ≡ fresh provider.chronicle.entries
    pub journal : IsHad form kept me provider.chronicle.entries
    pub held : tells → reads → (was : D) → home ≡ Some was → IsHeld form provider.chronicle.entries (sight was).seen
    pub moments : tells → reads → (was : D) → home ≡ Some was
        → IsOpenedFrom form kept me (sight was) (sight provider.chronicle.disk)
    pub stands : reads → Stands sight provider.chronicle

  -- So have providers, which are numbered from 0 on.
  abbrev pub AllBegun : (ℕ → Option D) → List (ProviderState D) → Type 0
  AllBegun home providers =
      (number : ℕ) (other : ProviderState D) → number < length providers
      → IsBegun number (home number) (slice_index_or providers number other)

  -- What a disk that came to nothing is now: at home again.
  pub record IsBack (me : ℕ) (fault : StartFault) (was : D) (home : Option D) : Type 0 where
    pub now : D
    pub is : home ≡ Some now
    pub left : reads → IsLeft form fault (sight was) (sight now)
    pub moments : reads → IsOpenedFrom form kept me (sight was) (sight now)
    pub says : reads → Says kept me (sight was).seen fault

  -- The network doesn't begin: some providers had begun, whose disks are at home again, and the next one's came to
  -- nothing, or memory ran out. No disk behind it was asked for.
  pub record IsRefused (old new : ℕ → Option D) (fault : StartFault) : Type 0 where
    pub providers : List (ProviderState D)
    pub count : length providers < length kept
    pub begun : AllBegun old providers
    pub about : IsAbout form (length providers) fault
    pub home : tells → (number : ℕ) (other : ProviderState D) → number < length providers
        → new number ≡ Some (slice_index_or providers number other).chronicle.disk
    pub next : tells → (was : D) → old (length providers) ≡ Some was
        → IsBack (length providers) fault was (new (length providers))
    pub behind : tells → (number : ℕ) → length providers < number → new number ≡ old number
