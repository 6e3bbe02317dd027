-- A folder of journals as a depot: what stands at each provider's place, and its faults. This project's profile.
use Rattle.std.specs.Prelude.{◌≡◌, ◌≢◌, ℕ, List, replicate}
use Rattle.std.specs.List.{slice_index_or}
use Rattle.pec_outside.specs.Depots.{Alike, depot_places}
use Rattle.pec_outside.specs.Flow.{as_u64}
use Rattle.pec_outside.specs.Memory.{risen}
use Rattle.pec_files.specs.Files.{FileState}

-- what stands at a provider's place
pub data Slot : Type 0 where
  closed : Slot  -- the file wasn't opened yet
  home : (disk : FileState) → Slot
  out : (faults : ℕ) → Slot  -- with its disk's count of faults as it last stood there

pub record FolderState : Type 0 where
  pub folder : List ℕ  -- its path
  pub slots : List Slot
  pub faults : ℕ

-- no file was opened yet
abbrev pub unopened : List ℕ → FolderState
unopened folder = record { folder = folder; slots = replicate depot_places closed; faults = 0 }

-- what stands at this place
abbrev pub slot_at : FolderState → ℕ → Slot
slot_at depot provider = slice_index_or depot.slots provider (out 0)

abbrev pub faults_in : Slot → ℕ
faults_in closed = 0
faults_in (home disk) = as_u64 disk.faults
faults_in (out faults) = as_u64 faults

-- the count of faults of a provider's disk as it last stood at home
abbrev pub last_of : FolderState → ℕ → ℕ
last_of depot provider = faults_in (slot_at depot provider)

-- at one place alone there stands this now
pub record Replaced (old : FolderState) (provider : ℕ) (slot : Slot) (new : FolderState) : Type 0 where
  pub here : slot_at new provider ≡ slot
  pub elsewhere : (k : ℕ) → k ≢ provider → slot_at new k ≡ slot_at old k
  pub folder : new.folder ≡ old.folder
  pub faults : new.faults ≡ old.faults

-- nothing was handed out: one fault more, and the same at each place
pub record Refused (old new : FolderState) : Type 0 where
  pub slots : Alike (slot_at old) (slot_at new)
  pub folder : new.folder ≡ old.folder
  pub faults : new.faults ≡ risen old.faults
