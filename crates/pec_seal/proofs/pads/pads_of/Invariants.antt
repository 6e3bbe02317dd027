-- What was put are the pads of the keys before this one.
use Rattle.std.proofs.Common.{take}
use Rattle.pec_seal.specs.Pads.{AreAllPads}
use Rattle.pec_seal.proofs.pads.pads_of.Given as goal

abbrev pub invariant-loop-key : goal.invariant-loop-key
invariant-loop-key l = AreAllPads (take l.key-index l.keys) l.pads.items
