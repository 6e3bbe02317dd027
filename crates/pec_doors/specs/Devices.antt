-- The system's clock, TCP connections and their door: what they count. What they give isn't told. This project's profile.
use Rattle.std.specs.Prelude.{◌≡◌, ℕ, ◌+◌, ◌-◌, nat_lt, if◌then◌else◌, Bool, true, false}
use Rattle.pec_outside.specs.Memory.{risen}

-- the clock
pub record DeviceState : Type 0 where
  pub faults : ℕ  -- how many calls failed

-- before the first call
abbrev pub unused : DeviceState
unused = record { faults = 0 }

-- after a call that failed
abbrev pub faulted : DeviceState → DeviceState
faulted device = record { faults = risen device.faults }

pub record ConnectionState : Type 0 where
  pub left : ℕ  -- how long its reads and writes may still take together, in nanoseconds
  pub faults : ℕ  -- how many of them failed

-- as it comes in, with the limit of its door
abbrev pub begun : ℕ → ConnectionState
begun limit = record { left = limit; faults = 0 }

pub record DoorState : Type 0 where
  pub port : ℕ
  pub limit : ℕ  -- how long the reads and writes of a connection may take together, in nanoseconds
  pub listening : Bool  -- the port was opened
  pub out : ℕ  -- how many connections were accepted and aren't closed
  pub faulty : ℕ  -- how many were closed with faults
  pub faults : ℕ  -- how many calls of accept failed

-- a door whose port wasn't opened yet
abbrev pub shut : ℕ → ℕ → DoorState
shut port limit = record { port = port; limit = limit; listening = false; out = 0; faulty = 0; faults = 0 }

-- behind a connection that was accepted
abbrev pub accepted : DoorState → DoorState
accepted door = record door { listening = true; out = door.out + 1 }

-- behind a connection that was closed with this count of faults
abbrev pub closed : DoorState → ℕ → DoorState
closed door faults =
    record door { out = door.out - 1; faulty = if nat_lt 0 faults then risen door.faulty else door.faulty }

-- No connection was accepted: one fault more. A port that was open is open, and another may be by now.
pub record Refused (old new : DoorState) : Type 0 where
  pub faults : new ≡ record old { listening = new.listening; faults = risen old.faults }
  pub stays : old.listening ≡ true → new.listening ≡ true
