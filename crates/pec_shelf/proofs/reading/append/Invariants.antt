use Rattle.std.proofs.Common.{◌≡◌, ◌++◌}
use Rattle.std.specs.Vec.Iter.{into_iter_items}
use Rattle.pec_shelf.proofs.reading.append.Given as goal

abbrev pub invariant-loop-address : goal.invariant-loop-address
invariant-loop-address l = l.addresses.items ++ into_iter_items l.address-iterator ≡ l.fn.addresses.items ++ l.fn.more.items
