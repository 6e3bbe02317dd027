-- The room of the lines so far and that of those that are left are the room of the part.
use Rattle.std.proofs.Common.{◌≡◌, ◌+◌, length}
use Rattle.pec_bodies.specs.Numbers.{room_in}
use Rattle.pec_bodies.proofs.numbers.room_in.Given as goal

abbrev pub invariant-loop-line : goal.invariant-loop-line
invariant-loop-line l = l.room + room_in l.rest ≡ room_in l.part

abbrev pub decreases-loop-line : goal.decreases-loop-line
decreases-loop-line l = length l.rest
