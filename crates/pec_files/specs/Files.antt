-- An open file as a disk: which one it is, and its faults. What it holds isn't told. This project's profile.
use Rattle.std.specs.Prelude.{◌≡◌, ℕ, ℤ, Bool, true, false}
use Rattle.pec_outside.specs.Memory.{risen}

pub record FileState : Type 0 where
  pub descriptor : ℤ  -- the number by which the operating system knows the open file
  pub faults : ℕ  -- how many calls failed
  pub sync_failed : Bool  -- one of them was a sync

-- before the first call
abbrev pub just_opened : ℤ → FileState
just_opened descriptor = record { descriptor = descriptor; faults = 0; sync_failed = false }

abbrev pub IsJustOpened : FileState → Type 0
IsJustOpened disk = disk ≡ just_opened disk.descriptor

-- after a call that failed
abbrev pub faulted : FileState → FileState
faulted disk = record disk { faults = risen disk.faults }

-- after a sync that failed
abbrev pub doubtful : FileState → FileState
doubtful disk = record disk { faults = risen disk.faults; sync_failed = true }
