use Rattle.std.proofs.Common.{arith}
use Rattle.pec_stock.proofs.opening.first_place.Goals as goal

pub overflow_cast-result : goal.overflow_cast-result
overflow_cast-result c =
    let short = c.an_entry_within_the_limits_is_short.ensures c.args.entry.now c.in_ok-bytes.bytes.items c.in_ok-bytes.ensures c.requires in
    omega (arith, short)
