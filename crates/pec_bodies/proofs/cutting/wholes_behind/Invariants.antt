-- The parts so far and those among the lines that are left are all.
use Rattle.std.proofs.Common.{◌≡◌, ◌+◌, ◌≤◌, [], drop, length}
use Rattle.pec_heads.specs.Lines.{whole_lines, last_piece}
use Rattle.pec_bodies.specs.PartsReading.{begun_at, wholes_from}
use Rattle.pec_bodies.specs.Views.{wholes_shown}
use Rattle.pec_bodies.proofs.cutting.wholes_behind.Given as goal

abbrev pub invariant-loop-line : goal.invariant-loop-line
invariant-loop-line l = record {
  read : wholes_from (record { body = l.body; boundary = l.boundary; last = last_piece (drop l.opening l.body) }) (wholes_shown l.wholes.items)
      (record { start = l.start; stop = l.end; at = l.at }) (whole_lines l.rest)
      ≡ wholes_from (record { body = l.body; boundary = l.boundary; last = last_piece (drop l.opening l.body) }) [] (begun_at l.opening) (whole_lines (drop l.opening l.body));
  last : last_piece l.rest ≡ last_piece (drop l.opening l.body);
  place : l.at + length l.rest ≡ length l.body;
  starts : l.start ≤ l.end;
  ends : l.end ≤ l.at;
}

abbrev pub decreases-loop-line : goal.decreases-loop-line
decreases-loop-line l = length l.rest
