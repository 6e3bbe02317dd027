-- The first list with the copies so far, and the copies that are left, are together both lists.
use Rattle.std.proofs.Common.{◌≡◌, ◌++◌}
use Rattle.std.specs.Vec.Iter.{into_iter_items}
use Rattle.pec_letters.proofs.asking.joined.Given as goal

abbrev pub invariant-loop-address : goal.invariant-loop-address
invariant-loop-address l = l.to.items ++ into_iter_items l.address-iterator ≡ l.fn.to.items ++ l.fn.copies.items
