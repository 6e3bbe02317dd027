use Rattle.std.proofs.Common.{◌≡◌, ◌≤◌, ◌++◌, length}
use Rattle.pec_rows.proofs.rows.put_each.Given as goal

abbrev pub invariant-loop-frame : goal.invariant-loop-frame
invariant-loop-frame l = record {
  ring : l.putter.ring ≡ l.fn.putter.ring;
  put : l.putter.put ++ l.frame-iterator.rest.items ≡ l.fn.putter.put ++ l.fn.frames.items;
  free : length l.frame-iterator.rest.items ≤ l.putter.free;
}
