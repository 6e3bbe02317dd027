-- The first letters with the others so far, and those that are left, are together all.
use Rattle.std.proofs.Common.{◌≡◌, ◌++◌}
use Rattle.std.specs.Vec.Iter.{into_iter_items}
use Rattle.pec_outgoing.proofs.dues.joined.Given as goal

abbrev pub invariant-loop-letter : goal.invariant-loop-letter
invariant-loop-letter l = l.letters.items ++ into_iter_items l.letter-iterator ≡ l.fn.letters.items ++ l.fn.others.items
