use Rattle.std.proofs.Common.{◌≡◌, ◌-◌, ◌≤◌, ◌++◌, length}
use Rattle.pec_outside.specs.Flow.{behind}
use Rattle.pec_types.specs.Bytes.{Bytes}
use Rattle.pec_http_head.specs.Cuts.{cut_from, cut_of}
use Rattle.pec_http.proofs.reading.read_head.Given as goal

abbrev pub invariant-pieces : goal.invariant-pieces
invariant-pieces g l = let port = g.S.Stream in let counts = g.S.Counted in record {
  taken : port.left l.fn.connection ≡ behind l.came.items (port.left l.connection);
  cut : (more : Bytes) → cut_of (l.came.items ++ more) ≡ cut_from l.scan.stand l.scan.lines l.scan.at more;
  at : l.scan.at ≡ length l.came.items;
  kept : port.held l.connection ≡ port.held l.fn.connection;
  later : counts.faults l.fn.connection ≤ counts.faults l.connection;
}

abbrev pub decreases-pieces : goal.decreases-pieces
decreases-pieces g l = 65536 - l.scan.at
