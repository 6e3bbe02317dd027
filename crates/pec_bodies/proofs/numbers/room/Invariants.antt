-- The room is that of the parts so far, and one place more.
use Rattle.std.proofs.Common.{◌≡◌, ◌+◌, map, take}
use Rattle.pec_bodies.specs.Numbers.{room_for}
use Rattle.pec_bodies.proofs.numbers.room.Given as goal

abbrev pub invariant-loop-part : goal.invariant-loop-part
invariant-loop-part l = l.room ≡ room_for (map (λ part. part.now) (take l.part-index l.parts)) + 1
