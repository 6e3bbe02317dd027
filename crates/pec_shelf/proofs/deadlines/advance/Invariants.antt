use Rattle.std.proofs.Common.{◌≡◌, ◌-◌, ◌≤◌, length}
use Rattle.pec_types.specs.Looks.{Rose}
use Rattle.pec_types.specs.Passed.{passed}
use Rattle.pec_shelf.proofs.deadlines.advance.Given as goal

abbrev pub invariant-loop-accepted : goal.invariant-loop-accepted
invariant-loop-accepted l = record {
  from : l.from ≤ l.place;
  place : l.place ≤ passed l.limit l.now l.fn.times.moments;
  moments : l.times.moments ≡ l.fn.times.moments;
  spare : l.times.spare ≡ l.fn.times.spare;
  rose : Rose (l.place - l.from) l.fn.times.looks l.times.looks l.fn.steps l.steps;
}

abbrev pub decreases-loop-accepted : goal.decreases-loop-accepted
decreases-loop-accepted l = length l.fn.times.moments - l.place
