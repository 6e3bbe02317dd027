-- The first delimiter of all is the first one among the lines that are left.
use Rattle.std.proofs.Common.{◌≡◌, ◌+◌, drop, length}
use Rattle.pec_heads.specs.Lines.{whole_lines, last_piece}
use Rattle.pec_bodies.specs.PartsReading.{opening_from}
use Rattle.pec_bodies.proofs.cutting.opening.Given as goal

abbrev pub invariant-loop-line : goal.invariant-loop-line
invariant-loop-line l = record {
  read : opening_from l.boundary l.at (whole_lines l.rest) ≡ opening_from l.boundary 0 (whole_lines l.body);
  last : last_piece l.rest ≡ last_piece l.body;
  rest : l.rest ≡ drop l.at l.body;
  place : l.at + length l.rest ≡ length l.body;
}

abbrev pub decreases-loop-line : goal.decreases-loop-line
decreases-loop-line l = length l.rest
