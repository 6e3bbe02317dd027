use Rattle.std.proofs.Common.{◌≡◌, drop}
use Rattle.pec_types.specs.AddressReading.{stop_at}
use Rattle.pec_types.proofs.scanning.stop.Given as goal

abbrev pub invariant-loop-at : goal.invariant-loop-at
invariant-loop-at l = stop_at l.stand l.at (drop l.at l.part) ≡ stop_at l.fn.begin 0 l.part
