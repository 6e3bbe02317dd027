-- The places of a folder as the program keeps them. This project's profile.
use Rattle.pec_files.specs.declared.file_depot.Standing.{Standing}
use Rattle.pec_files.specs.declared.file_depot.Standing.TheVariants as kept
use Rattle.pec_files.specs.Folders.{Slot, closed, home, out}

abbrev pub slot_of : Standing → Slot
slot_of kept.Closed = closed
slot_of (kept.Home disk) = home disk
slot_of (kept.Out faults) = out faults
