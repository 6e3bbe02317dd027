-- A path in the order of the recipients is the set of their addresses.
use Rattle.std.proofs.Common.{sym, ◌∙◌}
use Rattle.pec_points.proofs.KnownLemmas.{in_order_is_path}
use Rattle.pec_points.proofs.paths.is_path_of.Goals as goal

pub returns-then-is_in_order : goal.returns-then-is_in_order
returns-then-is_in_order c =
    sym (in_order_is_path c.args.path.now c.args.recipients.now (sym c.is_in_order.ensures ∙ c.if-is_in_order.true))
