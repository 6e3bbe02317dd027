use Rattle.std.proofs.Common.{◌≡◌, ◌+◌, ◌^◌, ◌<◌, ◌≤◌, length, take}
use Rattle.pec_shelf.specs.Moves.{places_of, rank_at}
use Rattle.pec_shelf.proofs.moves.rank_at.Given as goal

abbrev pub invariant-loop-behind : goal.invariant-loop-behind
invariant-loop-behind l = record {
  same : rank_at (take l.behind (places_of l.account l.moves.rows)) l.rank ≡ rank_at (places_of l.account l.moves.rows) l.place;
  within : l.behind ≤ length (places_of l.account l.moves.rows);
  below : l.rank + l.behind ≤ l.place + length (places_of l.account l.moves.rows);
  few : length (places_of l.account l.moves.rows) < 2 ^ 63;
}

abbrev pub decreases-loop-behind : goal.decreases-loop-behind
decreases-loop-behind l = l.behind
