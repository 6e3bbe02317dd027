-- The parts so far with those that are left are all.
use Rattle.std.proofs.Common.{◌≡◌, [], drop}
use Rattle.pec_bodies.specs.PartsReading.{parts_from}
use Rattle.pec_bodies.specs.Views.{entries_shown, wholes_shown}
use Rattle.pec_bodies.proofs.parts.read_parts.Given as goal

abbrev pub invariant-loop-whole : goal.invariant-loop-whole
invariant-loop-whole l = parts_from (entries_shown l.parts.items) (wholes_shown (drop l.whole-index l.wholes)) ≡ parts_from [] (wholes_shown l.wholes)
