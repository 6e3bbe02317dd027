-- The parts so far are joined.
use Rattle.std.proofs.Common.{◌≡◌, take}
use Rattle.std.specs.List.{flat_map}
use Rattle.pec_bodies.specs.Composing.{delimited}
use Rattle.pec_bodies.proofs.composing.join.Given as goal

abbrev pub invariant-loop-part : goal.invariant-loop-part
invariant-loop-part l = l.body.items ≡ flat_map (delimited l.boundary) (take l.part-index l.parts)
