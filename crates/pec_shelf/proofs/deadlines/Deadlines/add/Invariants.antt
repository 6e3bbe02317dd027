use Rattle.std.proofs.Common.{◌≡◌, ◌+◌, ◌++◌, length, take}
use Rattle.pec_shelf.specs.Deadlines.{HoldsCursors, moments_of, pairs_in, spots_of}
use Rattle.pec_shelf.proofs.deadlines.Deadlines.add.Given as goal

abbrev pub invariant-loop-offset : goal.invariant-loop-offset
invariant-loop-offset l = record {
  moments : l.self.moments ≡ l.fn.self.moments ++ moments_of (pairs_in l.first (take l.offset l.rows));
  spots : l.self.spots ≡ l.fn.self.spots ++ spots_of (pairs_in l.first (take l.offset l.rows));
  room : l.self.room + length (pairs_in l.first (take l.offset l.rows)) ≡ l.fn.self.room;
  same : HoldsCursors l.fn.self l.self;
}
