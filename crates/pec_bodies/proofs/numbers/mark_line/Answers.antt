-- A line takes what the text behind its front begins with, and without that front nothing.
use Rattle.std.proofs.Common.{◌≡◌, ◌||◌, false, ap, sym, ◌∙◌, arith}
use Rattle.std.proofs.lemmas.Grind.{common_steps}
use Rattle.pec_bodies.specs.Composing.{begins, boundary_number}
use Rattle.pec_bodies.specs.Marks.{dashed}
use Rattle.pec_bodies.specs.Numbers.{is_marked}
use Rattle.pec_bodies.proofs.NumberLaws.{takes_behind, takes_none}
use Rattle.pec_bodies.proofs.numbers.mark_line.Goals as goal

pub returns-in-Some : goal.returns-in-Some
returns-in-Some c = λ k below.
    c.mark_fronts.ensures k below ∙ ap (λ x. is_marked c.args.marks.now k || x) (sym (takes_behind c.args.line.now c.in-Some.digits.now k c.in-Some.ensures.some))

pub returns-in_default : goal.returns-in_default
returns-in_default c = λ k below.
    let none : begins (dashed (boundary_number k)) c.args.line.now ≡ false = takes_none c.args.line.now k c.in_default.ensures.none
    in grind (arith, common_steps)
