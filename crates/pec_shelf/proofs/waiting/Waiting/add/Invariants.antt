use Rattle.std.proofs.Common.{◌≡◌, ◌+◌, ◌++◌}
use Rattle.std.specs.List.{range_with_len}
use Rattle.pec_shelf.proofs.waiting.Waiting.add.Given as goal

abbrev pub invariant-loop-offset : goal.invariant-loop-offset
invariant-loop-offset l = record {
  places : l.self.places ≡ l.fn.self.places ++ range_with_len l.first l.offset;
  room : l.self.room + l.offset ≡ l.fn.self.room;
}
