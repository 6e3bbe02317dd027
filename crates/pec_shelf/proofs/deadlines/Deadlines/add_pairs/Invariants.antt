use Rattle.std.proofs.Common.{◌≡◌, ◌+◌, ◌++◌, map, replicate}
use Rattle.std.specs.List.{range_with_len}
use Rattle.pec_shelf.specs.Deadlines.{HoldsCursors, spot_at}
use Rattle.pec_shelf.proofs.deadlines.Deadlines.add_pairs.Given as goal

abbrev pub invariant-loop-index : goal.invariant-loop-index
invariant-loop-index l = record {
  moments : l.self.moments ≡ l.fn.self.moments ++ replicate l.index l.accepted;
  spots : l.self.spots ≡ l.fn.self.spots ++ map (spot_at l.number) (range_with_len 0 l.index);
  room : l.self.room + l.index ≡ l.fn.self.room;
  same : HoldsCursors l.fn.self l.self;
}
