-- Not all numbers that are looked at are taken: there are more of them than the lines have room for.
use Rattle.std.proofs.Common.{◌≡◌, ℕ, ◌<◌, ◌≤◌, ◌+◌, true, length, map, ap, sym, ◌∙◌, arith, vec_len}
use Rattle.pec_bodies.proofs.TakenLaws.{all_taken, first_free}
use Rattle.pec_bodies.specs.Composing.{boundary_number, boundary_taken}
use Rattle.pec_bodies.specs.Numbers.{is_marked, room_for}
use Rattle.pec_bodies.proofs.numbers.free_number.Goals as goal

pub unreachable-requires : goal.unreachable-requires
unreachable-requires c =
    let parts = map (λ part. part.now) c.args.parts.now
    in let looked = vec_len c.in_ok-marks.marks
    in let room : looked ≡ room_for parts + 1 = c.in_ok-marks.ensures.room
    in let long : looked ≡ length c.as_slice.result.now = sym c.as_slice.ensures.len
    in let taken : (k : ℕ) → k < looked → boundary_taken (boundary_number k) parts ≡ true =
    λ k below. sym (c.in_ok-marks.ensures.taken k below) ∙ ap (λ marks. is_marked marks k) (sym c.as_slice.ensures.value) ∙ c.in_default-first_unmarked.ensures.none k (omega (arith, long, below))
    in let no_more : looked ≤ room_for parts = all_taken parts looked (omega arith) taken
    in absurd (omega (arith, no_more, room))

-- With no room for any number the first is free.
pub returns-in-Some-eq1 : goal.returns-in-Some-eq1
returns-in-Some-eq1 c =
    let parts = map (λ part. part.now) c.args.parts.now
    in let none : room_for parts ≡ 0 = omega (arith, c.in-Some-eq1.ensures, c.in-Some-eq1.field-0-test)
    in record { fits = omega arith; free = first_free parts none; least = λ k below. absurd (omega (arith, below)) }
