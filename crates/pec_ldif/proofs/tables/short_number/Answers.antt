-- Nine digits are few enough.
use Rattle.std.proofs.Common.{arith, sym}
use Rattle.pec_ldif.proofs.NumberLemmas.{short_below}
use Rattle.pec_ldif.proofs.tables.short_number.Goals as goal

pub overflow_cast-result : goal.overflow_cast-result
overflow_cast-result c =
    let below = short_below c.args.text.now c.in_ok-number.number (omega (arith, c.if-text-gt-MOST_DIGITS.false)) (sym c.in_ok-number.ensures) in
    omega (arith, below)
