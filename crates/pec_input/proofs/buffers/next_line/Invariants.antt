use Rattle.std.proofs.Common.{◌≡◌, ◌+◌, ◌-◌, ◌≤◌, length}
use Rattle.pec_outside.specs.Flow.{behind}
use Rattle.pec_input.specs.Lines.{HasNoEnd}
use Rattle.pec_input.proofs.buffers.next_line.Given as goal

abbrev pub invariant-pieces : goal.invariant-pieces
invariant-pieces g l =
    let port = g.S.Stream in
    record {
      read : behind l.fn.buffer (port.left l.fn.source) ≡ behind l.line.items (behind l.buffer (port.left l.source));
      none : HasNoEnd l.line.items;
      later : g.S.Counted.faults l.fn.source ≤ g.S.Counted.faults l.source;
    }

abbrev pub decreases-pieces : goal.decreases-pieces
decreases-pieces g l = l.most + 3 - length l.line.items
