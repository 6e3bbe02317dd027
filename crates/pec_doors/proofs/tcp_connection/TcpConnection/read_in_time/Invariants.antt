use Rattle.std.proofs.Common.{◌≡◌, ◌≤◌}
use Rattle.pec_doors.proofs.tcp_connection.TcpConnection.read_in_time.Given as goal

abbrev pub invariant-loop : goal.invariant-loop
invariant-loop g l = record {
  spent : l.self.left ≤ l.fn.self.left;
  faults : l.self.faults ≡ l.fn.self.faults;
}
