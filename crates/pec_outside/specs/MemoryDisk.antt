-- Disks in memory: the log of their calls, and what it says of the bytes and of a crash. The headlines are `Step`,
-- `after`, which says what each step does, and `sight_of`, at the end. This project's profile.
use Rattle.std.specs.Prelude.{◌≡◌, ◌⊎◌, ℕ, zero, suc, ◌+◌, ◌-◌, ◌≤◌, min, nat_lt, nat_le, ◌==◌, ◌&&◌, Bool, true, false, if◌then◌else◌, List, [], ◌∷◌, ◌++◌, length, take}
use Rattle.std.specs.List.{list_any}
use Rattle.pec_outside.specs.declared.disk_log.Span.{Span}
use Rattle.pec_outside.specs.DiskModel.{Sight, Torn, written}
use Rattle.pec_outside.specs.Memory.{CallState, NextFails, answered, faulted, risen}

-- What a disk in memory keeps of a call, and of a crash.
pub data Step : Type 0 where
  looked : Step  -- a size or a read, answered or not
  wrote : (at : ℕ) (piece : List ℕ) (answered : Bool) → Step  -- behind the end it is a write at the end
  synced : (answered : Bool) → Step
  crashed : (kept : ℕ) → Step  -- so many pending bytes were kept

-- A disk in memory as contracts see it.
pub record DiskState : Type 0 where
  pub log : List Step
  pub calls : CallState

-- a step that is a call, and not a crash
abbrev pub is_call : Step → Bool
is_call looked = true
is_call (wrote at piece answered) = true
is_call (synced answered) = true
is_call (crashed kept) = false

-- after a call that was answered
abbrev pub answered_by : DiskState → Step → DiskState
answered_by disk step = record { log = disk.log ++ step ∷ []; calls = answered disk.calls }

-- After a call that failed: it is one that was to fail, and is kept, or it found no memory, which is a fault and no more.
abbrev pub FailedBy : DiskState → Step → DiskState → Type 0
FailedBy old step new = (NextFails old.calls × (new ≡ record { log = old.log ++ step ∷ []; calls = faulted old.calls }))
    ⊎ (new ≡ record old { calls = record old.calls { faults = risen old.calls.faults } })

-- ---- what a crash does to the pending bytes

-- a byte that is not on the disk and was not kept
abbrev pub lost_byte : ℕ
lost_byte = 0xff

-- the place is in one of the spans: a crash may change its byte
abbrev pub is_pending : List Span → ℕ → Bool
is_pending spans place = list_any (λ span. nat_le span.at place && nat_lt place (span.at + span.length)) spans

-- the bytes from a place on after a crash: the first pending ones, so many, are kept in order of place, the others lost
abbrev pub crash_image : List Span → ℕ → ℕ → List ℕ → List ℕ
crash_image spans kept at [] = []
crash_image spans kept at (byte ∷ bytes) = (if is_pending spans at && nat_le kept 0 then lost_byte else byte)
    ∷ crash_image spans (if is_pending spans at then kept - 1 else kept) (at + 1) bytes

-- ---- what the steps leave

-- What a disk in memory holds: its bytes, the spans written since the last sync, and what a crash may leave.
pub record Held : Type 1 where
  pub bytes : List ℕ
  pub pending : List Span
  pub images : List ℕ → Type 0

-- all of it on the disk
abbrev pub settled : List ℕ → Held
settled bytes = record { bytes = bytes; pending = []; images = λ image. image ≡ bytes }

abbrev pub after : Held → Step → Held
after held looked = held
after held (wrote at piece answered) =
    let place = min at (length held.bytes) in
    record {
      bytes = if answered then written held.bytes place piece else held.bytes;
      pending = held.pending ++ record { at = place; length = length piece } ∷ [];
      images = λ image. (was : List ℕ) × held.images was × Torn place (length piece) was image;
    }
after held (synced true) = settled held.bytes
after held (synced false) = held
after held (crashed kept) = settled (crash_image held.pending kept 0 held.bytes)

abbrev pub after_all : Held → List Step → Held
after_all held [] = held
after_all held (step ∷ steps) = after_all (after held step) steps

-- A disk begins empty.
abbrev pub held_of : List Step → Held
held_of log = after_all (settled []) log

-- a crash of a disk with this log, which says nothing where nothing is pending
abbrev pub after_crash : List Step → ℕ → List Step
after_crash log kept = if length (held_of log).pending == 0 then log else log ++ crashed kept ∷ []

-- the log up to the call of that number; crashes between are no calls
abbrev pub front_of : ℕ → List Step → List Step
front_of calls [] = []
front_of zero (step ∷ log) = []
front_of (suc calls) (step ∷ log) = step ∷ front_of (if is_call step then calls else suc calls) log

-- Some front of the log, of at least so many steps, is one after which a crash may leave this image.
pub record LeftSince (log : List Step) (since : ℕ) (image : List ℕ) : Type 0 where
  pub steps : ℕ
  pub from : since ≤ steps
  pub within : steps ≤ length log
  pub leaves : (held_of (take steps log)).images image

-- The disk model over a log. The clock counts its steps.
abbrev pub sight_of : List Step → Sight
sight_of log = record { seen = (held_of log).bytes; may_leave = (held_of log).images; moment = length log; left_since = LeftSince log }
