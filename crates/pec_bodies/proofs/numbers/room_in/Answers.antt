-- The lines so far have no more room than the part, and that no more than it has bytes.
use Rattle.std.proofs.Common.{◌≡◌, ◌+◌, sym, arith}
use Rattle.pec_bodies.proofs.TakenLaws.{room_in_le, room_last, room_step}
use Rattle.pec_bodies.specs.Numbers.{digits_of, room_in}
use Rattle.pec_bodies.proofs.numbers.room_in.Goals as goal

pub overflow_add-room : goal.overflow_add-room
overflow_add-room c =
    let law = c.lines_have_their_size.ensures
    in let step : room_in c.loop-line.rest.now ≡ digits_of c.in-Some.line.now + room_in c.in-Some.behind.now =
    room_step c.loop-line.rest.now c.in-Some.line.now c.in-Some.behind.now c.in-Some.ensures.first (sym c.in-Some.ensures.last)
    in omega (arith, step, c.loop-line.invariant, c.digits_of-room.ensures, room_in_le (record { several = law.several; text = law.text }) c.args.part.now)

pub overflow_add-result : goal.overflow_add-result
overflow_add-result c =
    let law = c.lines_have_their_size.ensures
    in let piece : room_in c.loop-line.rest.now ≡ digits_of c.loop-line.rest.now = room_last c.loop-line.rest.now c.in_default.ensures.none c.in_default.ensures.piece
    in omega (arith, piece, c.loop-line.invariant, c.digits_of.ensures, room_in_le (record { several = law.several; text = law.text }) c.args.part.now)
