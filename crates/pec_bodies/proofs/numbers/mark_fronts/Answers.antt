-- At first nothing is marked more; a number that is too large spells none that is looked at, and a leading zero itself alone.
use Rattle.std.proofs.Common.{◌≡◌, ◌||◌, false, true, ap, sym, ◌∙◌, arith, drop, eqb, get_or}
use Rattle.std.proofs.lemmas.Grind.{common_steps}
use Rattle.std.specs.Char.{is_ascii_digit}
use Rattle.pec_bodies.specs.Numbers.{is_marked}
use Rattle.pec_bodies.proofs.NumberLaws.{lone_zero, marked_one, past_none, spells_behind, spells_is, with_digit}
use Rattle.pec_bodies.proofs.numbers.mark_fronts.Goals as goal

pub loop-byte-init : goal.loop-byte-init
loop-byte-init c = (omega arith, λ k below. ap (λ x. is_marked c.args.marks.now k || x) (spells_is c.args.text.now k (omega arith)))

pub returns-then-number-marks : goal.returns-then-number-marks
returns-then-number-marks c = λ k below.
    let text = c.args.text.now
    in let none : spells_behind c.loop-byte.number (drop c.loop-byte.byte-index text) k ≡ false = past_none c.loop-byte.number text c.loop-byte.byte-index k (omega arith) (omega arith)
    in let so_far = c.loop-byte.invariant.1 k (omega arith)
    in grind (arith, common_steps)

pub returns-then-number-eq0 : goal.returns-then-number-eq0
returns-then-number-eq0 c = λ k below.
    let text = c.args.text.now
    in let digit : is_ascii_digit (get_or text c.loop-byte.byte-index 0) ≡ true = sym c.is_ascii_digit.ensures.value ∙ c.if-not-is_ascii_digit.false
    in let zero : with_digit c.loop-byte.number (get_or text c.loop-byte.byte-index 0) ≡ 0 = omega (arith, c.with_digit-number.ensures, c.if-number-eq0.true)
    in let spelled = lone_zero c.loop-byte.number text c.loop-byte.byte-index k (omega arith) digit zero
    in let so_far = c.loop-byte.invariant.1 k (omega arith)
    in marked_one c.loop-byte.marks c.with_digit-number.result k c.if-number-marks.false
    ∙ ap (λ t. is_marked c.loop-byte.marks k || t) (ap (eqb k) c.if-number-eq0.true ∙ sym spelled)
    ∙ so_far
