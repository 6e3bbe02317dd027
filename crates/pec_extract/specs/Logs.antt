-- The extract of the logs of all providers of a directory, for a range of moments: `log_records`, and its text,
-- `log_text`. What it leaves of the providers (`IsRead`), and what is said of its faults. This project's profile.
use Rattle.std.specs.Prelude.{◌≡◌, ℕ, ◌+◌, ◌*◌, ◌<◌, ◌≤◌, true, false, List, [], ◌∷◌, ◌++◌, length, map, slice_index_or, Option, None}
use Rattle.pec_types.specs.Bytes.{Bytes}
use Rattle.pec_outside.specs.DiskModel.{Sight}
use Rattle.pec_outside.specs.Flow.{HasRisen, followed_by}
use Rattle.pec_directory.specs.Directory.{Kept, Provider}
use Rattle.pec_seal.specs.Seals.{Seals}
use Rattle.pec_records.specs.declared.entries.Entry.{Entry}
use Rattle.pec_ledger.specs.Network.{journals_in}
use Rattle.pec_ledger.specs.Steps.{half}
use Rattle.pec_ledger.specs.Trade.{Trade}
use Rattle.pec_chronicle.specs.Carrying.{CarriesOn, NothingMay}
use Rattle.pec_chronicle.specs.Chronicle.{Stands}
use Rattle.pec_provider.specs.Provider.{Desk, ProviderState, Runs, stopped}
use Rattle.pec_provider.specs.Summing.{most_pairs}
use Rattle.pec_extract.specs.LogRows.{both, log_rows, no_totals, totals_of}
use Rattle.pec_extract.specs.Reading.{IsLogChanged, LogTells}
use Rattle.pec_extract.specs.Records.{Record, header, records_text, totals_record}
use Rattle.pec_extract.specs.declared.faults.ExtractFault.{ExtractFault}
use Rattle.pec_extract.specs.declared.faults.ExtractFault.TheVariants as faults
use Rattle.pec_extract.specs.declared.writing.Totals.{Totals}

-- ---- what is written

module _ (trade : Trade) (providers : List Provider) (from upto : ℕ) where
  -- the rows of the journals of providers, numbered from here on
  abbrev pub rows_of_all : ℕ → List (List Entry) → List Record
  rows_of_all me [] = []
  rows_of_all me (journal ∷ journals) =
      log_rows trade providers me journal from upto ++ rows_of_all (me + 1) journals

-- the totals of the journals of providers, numbered from here on, in one
abbrev pub totals_of_all : Trade → (from upto : ℕ) → ℕ → List (List Entry) → Totals
totals_of_all trade from upto me [] = no_totals
totals_of_all trade from upto me (journal ∷ journals) =
    both (totals_of trade me from upto (half trade me journal)) (totals_of_all trade from upto (me + 1) journals)

-- What is known of the pairs that all providers accepted in a range.
abbrev pub all_totals : Trade → (from upto : ℕ) → List (List Entry) → Totals
all_totals trade from upto journals = totals_of_all trade from upto 0 journals

-- The records of an extract: the header, the rows of each journal in order, whose providers are numbered from 0, and the
-- totals of all.
abbrev pub log_records : Trade → List Provider → (from upto : ℕ) → List (List Entry) → List Record
log_records trade providers from upto journals =
    header ∷ (rows_of_all trade providers from upto 0 journals ++ totals_record (all_totals trade from upto journals) ∷ [])

-- The text of an extract.
abbrev pub log_text : Trade → List Provider → (from upto : ℕ) → List (List Entry) → Bytes
log_text trade providers from upto journals = records_text (log_records trade providers from upto journals)

-- More bytes may stand behind those that it held.
abbrev pub HasGrown : Option Bytes → Option Bytes → Type 0
HasGrown before after = (more : Bytes) × (after ≡ followed_by before more)

-- ---- the providers

-- the journals of providers
abbrev pub logs_of : {D : Type 0} → List (ProviderState D) → List (List Entry)
logs_of {D} providers = map (λ (provider : ProviderState D). provider.chronicle.entries) providers

-- this is so of each provider, by its number
abbrev pub Each : {D : Type 0} → (ℕ → ProviderState D → Type 0) → List (ProviderState D) → Type 0
Each {D} So providers =
    (number : ℕ) (other : ProviderState D) → number < length providers → So number (slice_index_or providers number other)

-- They are the providers of a directory from this number on.
abbrev pub RunFrom : {D : Type 0} → List Kept → Seals → ℕ → List (ProviderState D) → Type 0
RunFrom kept seals first providers = Each (λ number provider. Runs kept seals (first + number) provider) providers

-- They are the providers of a directory, numbered from 0.
abbrev pub AllRun : {D : Type 0} → List Kept → Seals → List (ProviderState D) → Type 0
AllRun kept seals providers = Each (λ number provider. Runs kept seals number provider) providers

-- None is down.
abbrev pub AllUp : {D : Type 0} → List (ProviderState D) → Type 0
AllUp providers = Each (λ number provider. provider.chronicle.down ≡ false) providers

-- What is kept of each stands on its disk.
abbrev pub AllStand : {D : Type 0} → (D → Sight) → List (ProviderState D) → Type 0
AllStand sight providers = Each (λ number provider. Stands sight provider.chronicle) providers

-- The log of a provider was read: its entries are what they were, and so is what it owes; nothing was appended, at no
-- moment; and no count of faults fell.
pub record IsRead {D : Type 0} (Tells : Type 0) (sight : D → Sight) (faults : D → ℕ) (old new : ProviderState D)
    : Type 0 where
  pub entries : new.chronicle.entries ≡ old.chronicle.entries
  pub interrupted : new.chronicle.interrupted ≡ old.chronicle.interrupted
  pub owed : new.owed ≡ old.owed
  pub carries : Tells → CarriesOn sight NothingMay old.chronicle new.chronicle
  pub later : faults old.chronicle.disk ≤ faults new.chronicle.disk

-- The log of each was read, or of some.
abbrev pub AllRead : {D : Type 0} → Type 0 → (D → Sight) → (D → ℕ) → List (ProviderState D) → List (ProviderState D) → Type 0
AllRead {D} Tells sight faults old new =
    (number : ℕ) (other : ProviderState D) → number < length old
    → IsRead Tells sight faults (slice_index_or old number other) (slice_index_or new number other)

-- The count of faults of the disk of one of them has risen.
abbrev pub HasRisenIn : {D : Type 0} → (D → ℕ) → List (ProviderState D) → List (ProviderState D) → Type 0
HasRisenIn {D} faults old new =
    (number : ℕ) × (number < length old) × ((other : ProviderState D)
    → HasRisen (faults (slice_index_or old number other).chronicle.disk)
    (faults (slice_index_or new number other).chronicle.disk))

-- ---- faults

-- this is so where a read failed, or gave what was never kept so
abbrev pub OnRead : Type 0 → ExtractFault → Type 0
OnRead So faults.DiskFault = So
OnRead So (faults.Changed number) = So
OnRead So _ = Unit {0}

-- One of the desks was up, with no interrupted entry, and is down, and nothing else of any of them has changed.
pub record OneHasStopped (old new : List Desk) : Type 0 where
  pub before : List Desk
  pub desk : Desk
  pub behind : List Desk
  pub was : old ≡ before ++ desk ∷ behind
  pub up : desk.up ≡ true
  pub interrupted : desk.interrupted ≡ None
  pub is : new ≡ before ++ stopped desk ∷ behind

-- Each is as it was; but where a read failed, or gave what was never kept so, one of them is down.
abbrev pub FaultLeaves : List Desk → List Desk → ExtractFault → Type 0
FaultLeaves old new faults.DiskFault = OneHasStopped old new
FaultLeaves old new (faults.Changed number) = OneHasStopped old new
FaultLeaves old new fault = new ≡ old

-- The entry of this number, in the journal of one of the providers from this one on, holds no envelope that is seen as one
-- of its message.
abbrev pub IsChangedFrom : Trade → ℕ → List (List Entry) → ℕ → Type 0
IsChangedFrom trade first journals number =
    (place : ℕ) × (place < length journals) × IsLogChanged trade (first + place) (journals_in journals place) number

-- So it is of the entry of this number in the journal of one of all.
abbrev pub IsChangedIn : Trade → List (List Entry) → ℕ → Type 0
IsChangedIn trade journals number =
    (me : ℕ) × (me < length journals) × IsLogChanged trade me (journals_in journals me) number

-- None is, of those by which rows of a range are told, in the journals of the providers from this one on.
abbrev pub LogsTellFrom : Trade → (from upto : ℕ) → ℕ → List (List Entry) → Type 0
LogsTellFrom trade from upto first journals =
    (place : ℕ) → place < length journals → LogTells trade (first + place) from upto (journals_in journals place)

-- None is in those of all.
abbrev pub LogsTell : Trade → (from upto : ℕ) → List (List Entry) → Type 0
LogsTell trade from upto journals =
    (me : ℕ) → me < length journals → LogTells trade me from upto (journals_in journals me)

-- None of the numbers is above those of so many providers.
pub record TotalsUpTo (totals : Totals) (providers : ℕ) : Type 0 where
  pub accepted : totals.accepted ≤ 3 * (providers * most_pairs)
  pub delivered : totals.delivered ≤ providers * most_pairs
  pub refused : totals.refused ≤ providers * most_pairs
  pub pending : totals.pending ≤ providers * most_pairs
