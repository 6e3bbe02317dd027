use Rattle.std.proofs.Common.{◌≡◌, ◌+◌, ◌-◌, ◌≤◌, length}
use Rattle.pec_outside.specs.Flow.{behind}
use Rattle.pec_input.specs.declared.opening.TheConstants.{LONGEST_DIRECTORY}
use Rattle.pec_input.proofs.whole.read_whole.Given as goal

abbrev pub invariant-pieces : goal.invariant-pieces
invariant-pieces g l =
    let port = g.S.Stream in
    record {
      read : port.left l.fn.source ≡ behind l.bytes.items (port.left l.source);
      room : length l.room ≡ 32768;
      later : g.S.Counted.faults l.fn.source ≤ g.S.Counted.faults l.source;
    }

abbrev pub decreases-pieces : goal.decreases-pieces
decreases-pieces g l = LONGEST_DIRECTORY + 1 - length l.bytes.items
