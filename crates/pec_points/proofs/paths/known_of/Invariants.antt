-- The addresses before the next one are known.
use Rattle.std.proofs.Common.{take}
use Rattle.pec_heads.specs.FactsOfHeads.{has_address}
use Rattle.pec_points.specs.Known.{AreKnown}
use Rattle.pec_points.proofs.paths.known_of.Given as goal

abbrev pub invariant-loop-address : goal.invariant-loop-address
invariant-loop-address l = AreKnown l.known (has_address (take l.address-index l.path))
