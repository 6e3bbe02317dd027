-- The log of a disk in memory as the program keeps it: `IsLog` says that its bytes and pending spans are what the steps
-- leave. This project's profile.
use Rattle.std.specs.Prelude.{◌≡◌, ℕ, ◌+◌, ◌<◌, ◌≤◌, List, ◌∷◌, [], ◌++◌, map, vec_len, vec_capacity}
use Rattle.pec_outside.specs.declared.disk_log.DiskLog.{DiskLog}
use Rattle.pec_outside.specs.declared.disk_log.Step as program
use Rattle.pec_outside.specs.declared.disk_log.Step.TheVariants as kept
use Rattle.pec_outside.specs.MemoryDisk.{Step, looked, wrote, synced, crashed, held_of}

abbrev pub step_of : program.Step → Step
step_of kept.Look = looked
step_of (kept.Write at piece answered) = wrote at piece.items answered
step_of (kept.Sync answered) = synced answered
step_of (kept.Crash pending) = crashed pending

abbrev pub steps_of : DiskLog → List Step
steps_of log = map step_of log.steps.items

-- its parts are what its steps leave, and a crash finds room
pub record IsLog (log : DiskLog) : Type 0 where
  pub bytes : log.bytes.items ≡ (held_of (steps_of log)).bytes
  pub pending : log.pending.items ≡ (held_of (steps_of log)).pending
  pub room : 0 < vec_len log.pending → vec_len log.steps < vec_capacity log.steps

-- room for a step that writes so many bytes, and for a crash behind it
pub record HasRoom (count : ℕ) (log : DiskLog) : Type 0 where
  pub bytes : vec_len log.bytes + count ≤ vec_capacity log.bytes
  pub pending : vec_len log.pending + 1 ≤ vec_capacity log.pending
  pub steps : vec_len log.steps + 2 ≤ vec_capacity log.steps

-- the same but for room, of which there is no less
pub record Keeps (old new : DiskLog) : Type 0 where
  pub bytes : new.bytes.items ≡ old.bytes.items
  pub pending : new.pending.items ≡ old.pending.items
  pub steps : new.steps.items ≡ old.steps.items
  pub log : IsLog old → IsLog new

-- the log goes on by a step
pub record Goes (old : DiskLog) (step : Step) (new : DiskLog) : Type 0 where
  pub log : IsLog new
  pub steps : steps_of new ≡ steps_of old ++ step ∷ []
