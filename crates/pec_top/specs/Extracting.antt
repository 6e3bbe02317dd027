-- A run that writes an extract of logs: `LogRan`, which says of pec_dossier's `ExtractRan` that its text is the one of
-- pec_extract, and when an entry is told as changed. This project's profile.
use Rattle.std.specs.Prelude.{◌≡◌, ℕ, List, length, Option, Some}
use Rattle.pec_types.specs.Bytes.{Bytes}
use Rattle.pec_outside.specs.DiskModel.{Sight}
use Rattle.pec_directory.specs.Directory.{Provider}
use Rattle.pec_records.specs.declared.entries.Entry.{Entry}
use Rattle.pec_ledger.specs.Trade.{Trade}
use Rattle.pec_dossier.specs.Extracts.{Extracted, Range}
use Rattle.pec_extract.specs.Logs.{AllRead, HasRisenIn, IsChangedIn, LogsTell, log_text}
use Rattle.pec_extract.specs.Records.{header, record_text}
use Rattle.pec_runs.specs.Happened.{trade_in}
use Rattle.pec_runs.specs.Openings.{NoMore}
use Rattle.pec_runs.specs.Ran.{Blames, Counts, NoneFell}
use Rattle.pec_runs.specs.Statuses.{Status}
use Rattle.pec_runs.specs.Statuses as statuses
use Rattle.pec_serving.specs.OfNetworks.{AllAt, ProviderState}

-- the text of an extract, by its range
abbrev pub text_within : Range → Trade → List Provider → List (List Entry) → Bytes
text_within range trade providers journals = log_text trade providers range.from range.upto journals

-- the first record of every extract
abbrev pub header_text : Bytes
header_text = record_text header

-- ---- the logs of a network

-- The logs of its providers were read, and their disks are kept in the depot again. A fault of a disk is told only where
-- the count of one of them rose as it was read.
pub record WereRead {D : Type 0} (tells reads : Type 0) (sight : D → Sight) (faults : D → ℕ) (status : Status)
    (old : List (ProviderState D)) (home left : ℕ → Option D) (last later : ℕ → ℕ) : Type 0 where
  pub now : List (ProviderState D)
  pub many : length now ≡ length old
  pub each : AllRead reads sight faults old now
  pub failed : status ≡ statuses.DiskFault → HasRisenIn faults old now
  pub kept : tells → AllAt (λ provider. Some provider.chronicle.disk) home left now
  pub counts : AllAt (λ provider. faults provider.chronicle.disk) last later now

-- ---- the run

-- It ran so, but for the counts of faults of its devices. Over disks that tell what they hold an entry is told as changed
-- only where one of the journals that were opened holds, by which a message was taken, no envelope of that message; and at
-- status 0 there is none of these for the rows that were written.
pub record LogRanSo {D : Type 0} (tells : Type 0) (sight : D → Sight) (faults : D → ℕ) (range : Range) (status : Status)
    (unread before after : Option Bytes) (home left : ℕ → Option D) (from upto : ℕ → ℕ) : Type 0 where
  pub so : Extracted text_within header_text tells sight faults range status before after home left from upto unread
  pub changed : tells → status ≡ statuses.Changed
      → (number : ℕ) × IsChangedIn (trade_in so.setting) so.opening.journals number
  pub unchanged : tells → status ≡ statuses.Done → so.opening.next ≡ NoMore
      → LogsTell (trade_in so.setting) range.from range.upto so.opening.journals

-- The program wrote an extract of logs so; and its status blames a device only where that one's count of faults rose.
pub record LogRan {D : Type 0} (tells : Type 0) (sight : D → Sight) (faults : D → ℕ) (range : Range) (status : Status)
    (unread before after : Option Bytes) (home left : ℕ → Option D) (old new : Counts) : Type 0 where
  pub ran : LogRanSo tells sight faults range status unread before after home left old.disks new.disks
  pub blame : Blames status old new
  pub counts : NoneFell old new

-- counts of faults of input, output, depot and disks
abbrev pub devices_of : (source sink depot : ℕ) → (ℕ → ℕ) → Counts
devices_of source sink depot disks = record { source = source; sink = sink; depot = depot; disks = disks }

-- No count fell, and the status blames a device only where its count rose.
abbrev pub DevicesGo : Status → Counts → Counts → Type 0
DevicesGo status old new = Blames status old new × NoneFell old new
