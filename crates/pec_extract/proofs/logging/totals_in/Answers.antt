-- The numbers are small.
use Rattle.std.proofs.Common.{arith}
use Rattle.pec_extract.proofs.logging.totals_in.Goals as goal

pub overflow_add-result : goal.overflow_add-result
overflow_add-result c = omega (arith, c.requires.delivered, c.requires.refused)

pub overflow_add-result-2 : goal.overflow_add-result-2
overflow_add-result-2 c = omega (arith, c.requires.delivered, c.requires.refused, c.requires.unknown)
