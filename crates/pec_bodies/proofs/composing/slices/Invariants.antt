-- The slices so far are those of the parts so far.
use Rattle.std.proofs.Common.{◌≡◌, map, take}
use Rattle.pec_bodies.proofs.composing.slices.Given as goal

abbrev pub invariant-loop-part : goal.invariant-loop-part
invariant-loop-part l = map (λ piece. piece.now) l.pieces.items ≡ take l.part-index l.parts
