-- The statuses of the program, with their codes, and which of them an end has. This project's profile.
use Rattle.std.specs.Prelude.{ℕ}
use Rattle.pec_runs.specs.Endings.{End}
use Rattle.pec_runs.specs.Endings as ends

-- What the program says when it exits. `ClockFault` and `DoorFault` come only where it serves connections, `DiskFault` and
-- `Changed` only where it writes an extract of logs.
pub data Status : Type 0 where
  Done : Status
  Usage : Status
  Refused : Status
  ReadFault : Status
  WriteFault : Status
  NoMemory : Status
  StartFault : Status
  NotEmpty : Status
  NotFit : Status
  ClockFault : Status
  DoorFault : Status
  InputTooLong : Status
  DiskFault : Status
  Changed : Status

-- the number with which the program exits
abbrev pub code_of : Status → ℕ
code_of Done = 0
code_of Usage = 2
code_of Refused = 3
code_of ReadFault = 4
code_of WriteFault = 5
code_of NoMemory = 6
code_of StartFault = 7
code_of NotEmpty = 8
code_of NotFit = 9
code_of ClockFault = 10
code_of DoorFault = 11
code_of InputTooLong = 12
code_of DiskFault = 13
code_of Changed = 14

-- the status of a run that came to this end
abbrev pub status_of : End → Status
status_of ends.Done = Done
status_of ends.Usage = Usage
status_of ends.LongDirectory = InputTooLong
status_of ends.NoScript = Refused
status_of (ends.DirectoryRefused why) = Refused
status_of (ends.NotEmpty provider) = NotEmpty
status_of (ends.NotFit provider unfit) = NotFit
status_of (ends.LongLine number) = InputTooLong
status_of ends.LongScript = InputTooLong
status_of (ends.LineRefused number fault) = Refused
