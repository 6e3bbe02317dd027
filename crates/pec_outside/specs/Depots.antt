-- Depots: what changes at one provider alone, and the depot in memory. This project's profile.
use Rattle.std.specs.Prelude.{◌≡◌, ◌≢◌, ℕ, List, [], Option, None, Some, replicate}
use Rattle.std.specs.List.{slice_index_or}
use Rattle.pec_outside.specs.Flow.{as_u64}
use Rattle.pec_outside.specs.Memory.{no_calls}
use Rattle.pec_outside.specs.MemoryDisk.{DiskState}

-- how many providers a depot knows
abbrev pub depot_places : ℕ
depot_places = 16

-- the same at each provider
abbrev pub Alike : {X : Type 0} → (ℕ → X) → (ℕ → X) → Type 0
Alike old new = (k : ℕ) → new k ≡ old k

-- this at one provider, and the same at each other
pub record OnlyAt {X : Type 0} (old new : ℕ → X) (provider : ℕ) (value : X) : Type 0 where
  pub here : new provider ≡ value
  pub elsewhere : (k : ℕ) → k ≢ provider → new k ≡ old k

-- ---- in memory

-- what stands at a provider's place
pub data Slot : Type 0 where
  fresh : Slot  -- nothing was kept there, and nothing is out
  home : (disk : DiskState) → Slot
  out : (faults : ℕ) → Slot  -- with its disk's count of faults as it last stood there

pub record DepotState : Type 0 where
  pub slots : List Slot
  pub failing : List (List ℕ)  -- the calls that fail of each provider's first disk
  pub kept : List ℕ  -- how many pending bytes each crash keeps
  pub crashes : ℕ  -- how many there were
  pub faults : ℕ

-- sixteen places with nothing kept
abbrev pub no_disks : List (List ℕ) → List ℕ → DepotState
no_disks failing kept = record { slots = replicate depot_places fresh; failing = failing; kept = kept; crashes = 0; faults = 0 }

-- how many pending bytes the next crash keeps
abbrev pub kept_by : DepotState → ℕ
kept_by depot = slice_index_or depot.kept depot.crashes 0

-- an empty disk, with that provider's failing calls
abbrev pub first_disk : DepotState → ℕ → DiskState
first_disk depot provider = record { log = []; calls = no_calls (slice_index_or depot.failing provider []) }

abbrev pub disk_in : Slot → DiskState → Option DiskState
disk_in fresh first = Some first
disk_in (home disk) first = Some disk
disk_in (out faults) first = None

abbrev pub faults_in : Slot → ℕ
faults_in fresh = 0
faults_in (home disk) = as_u64 disk.calls.faults
faults_in (out faults) = as_u64 faults

abbrev pub home_of : DepotState → ℕ → Option DiskState
home_of depot provider = disk_in (slice_index_or depot.slots provider (out 0)) (first_disk depot provider)

abbrev pub last_of : DepotState → ℕ → ℕ
last_of depot provider = faults_in (slice_index_or depot.slots provider (out 0))

-- at one place alone there stands this now
pub record Replaced (old : DepotState) (provider : ℕ) (slot : Slot) (new : DepotState) : Type 0 where
  pub here : slice_index_or new.slots provider (out 0) ≡ slot
  pub elsewhere : (k : ℕ) → k ≢ provider → slice_index_or new.slots k (out 0) ≡ slice_index_or old.slots k (out 0)
  pub failing : new.failing ≡ old.failing
  pub kept : new.kept ≡ old.kept
  pub crashes : new.crashes ≡ old.crashes
