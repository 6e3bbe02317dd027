-- Counts of faults of a run, and how one ends that served. This project's profile.
use Rattle.std.specs.Prelude.{ℕ, Option}
use Rattle.pec_types.specs.Bytes.{Bytes}
use Rattle.pec_outside.specs.DiskModel.{Sight}
use Rattle.pec_runs.specs.Openings.{disks_at}
use Rattle.pec_runs.specs.Statuses as statuses
use Rattle.pec_service.specs.Runs.{AllCounts, Asked, Blames, HasServed, NoneFell, Outside}
use Rattle.pec_service.specs.Through.{DisksWent}
use Rattle.pec_serving.specs.declared.serving.Ending.{Ending}
use Rattle.pec_serving.specs.declared.serving.Ending.TheVariants as endings

-- ---- counts of faults

-- those of input, output, depot, disks, clock and door; an object that isn't at hand has none
abbrev pub counts_of : (source sink depot : ℕ) → (ℕ → ℕ) → (clock door : ℕ) → AllCounts
counts_of source sink depot disks clock door =
    record { devices = record { source = source; sink = sink; depot = depot; disks = disks }; clock = clock; door = door }

-- No count fell, and the status blames a device only where its count rose.
abbrev pub CountsGo : statuses.Status → AllCounts → AllCounts → Type 0
CountsGo status old new = Blames status old new × NoneFell old new

-- ---- a run

-- It served over a depot that had these disks at home, by provider, and has those, while the counts of faults of disks rose
-- so; and what the disks went through between. The same as `ServiceRanThrough`, but for the counts of other devices.
pub record HasServedOver {D : Type 0} (tells : Type 0) (sight : D → Sight) (faults : D → ℕ) (asked : Asked) (status : statuses.Status)
    (unread before after : Option Bytes) (home left : ℕ → Option D) (here there : Outside) (from upto : ℕ → ℕ)
    : Type 0 where
  pub so : HasServed asked status unread before after tells (disks_at tells sight home) (disks_at tells sight left) here
      there from upto
  pub through : DisksWent tells sight faults home left from upto asked so.happened

-- ---- how a service ended

-- the status of a service that ended so
abbrev pub ended_as : Ending → statuses.Status
ended_as endings.AllServed = statuses.Done
ended_as endings.NoMoment = statuses.ClockFault
ended_as endings.NoConnection = statuses.DoorFault
ended_as endings.NoMemory = statuses.NoMemory
ended_as endings.WriteFault = statuses.WriteFault
