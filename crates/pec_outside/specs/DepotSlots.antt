-- The depot in memory as the program keeps it. This project's profile.
use Rattle.std.specs.Prelude.{ℕ, List, Vec, map}
use Rattle.std.specs.declared.alloc.Global.{Global}
use Rattle.pec_outside.specs.declared.mem_depot.Standing.{Standing}
use Rattle.pec_outside.specs.declared.mem_depot.Standing.TheVariants as kept
use Rattle.pec_outside.specs.Depots.{Slot, fresh, home, out}

abbrev pub slot_of : Standing → Slot
slot_of kept.Fresh = fresh
slot_of (kept.Home disk) = home disk
slot_of (kept.Out faults) = out faults

abbrev pub failing_of : List (Vec ℕ Global) → List (List ℕ)
failing_of lists = map (λ list. list.items) lists
