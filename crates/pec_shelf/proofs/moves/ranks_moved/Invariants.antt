use Rattle.std.proofs.Common.{◌≡◌, map, take}
use Rattle.pec_shelf.specs.Moves.{Moved, own_moved}
use Rattle.pec_shelf.proofs.moves.ranks_moved.Given as goal

abbrev pub invariant-loop-at : goal.invariant-loop-at
invariant-loop-at l = l.ranks.items ≡ map (λ (moved : Moved). moved.rank) (take l.at (own_moved l.account l.moves.rows))
