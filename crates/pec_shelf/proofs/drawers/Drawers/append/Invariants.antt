use Rattle.std.proofs.Common.{◌≡◌, ◌+◌, ◌++◌, length}
use Rattle.std.specs.Vec.Iter.{into_iter_items}
use Rattle.pec_shelf.proofs.drawers.Drawers.append.Given as goal

abbrev pub invariant-loop-row : goal.invariant-loop-row
invariant-loop-row g l = record {
  rows : l.self.rows ++ into_iter_items l.row-iterator ≡ l.fn.self.rows ++ l.fn.rows.items;
  room : l.self.room + length l.fn.rows.items ≡ l.fn.self.room + length (into_iter_items l.row-iterator);
}
