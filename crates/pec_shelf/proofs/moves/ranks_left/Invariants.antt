use Rattle.std.proofs.Common.{◌≡◌, take}
use Rattle.std.specs.List.{range_with_len}
use Rattle.pec_shelf.specs.Moves.{places_of, ranks_left}
use Rattle.pec_shelf.proofs.moves.ranks_left.Given as goal

abbrev pub invariant-loop-at : goal.invariant-loop-at
invariant-loop-at l = l.ranks.items ≡ ranks_left (range_with_len 0 l.count) (take l.at (places_of l.account l.moves.rows))
