use Rattle.std.proofs.Common.{◌≡◌, ◌-◌, ◌≤◌, vec_len}
use Rattle.pec_http.specs.Input.{TakesMore}
use Rattle.pec_http.proofs.reading.read_body.Given as goal

abbrev pub invariant-pieces : goal.invariant-pieces
invariant-pieces g l = let port = g.S.Stream in let counts = g.S.Counted in record {
  more : TakesMore (port.left l.fn.connection) l.fn.came.items (port.left l.connection) l.came.items;
  kept : port.held l.connection ≡ port.held l.fn.connection;
  later : counts.faults l.fn.connection ≤ counts.faults l.connection;
}

abbrev pub decreases-pieces : goal.decreases-pieces
decreases-pieces g l = l.until - vec_len l.came
