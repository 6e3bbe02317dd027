use Rattle.std.proofs.Common.{◌≡◌, ◌++◌, take}
use Rattle.std.specs.List.{flat_map}
use Rattle.pec_shelf.specs.Still.{outcome_in}
use Rattle.pec_shelf.proofs.owing.push_outcomes.Given as goal

abbrev pub invariant-loop-place : goal.invariant-loop-place
invariant-loop-place l = l.letters.items ≡ l.fn.letters.items ++ flat_map (outcome_in l.shelf.half l.to l.fates) (take l.place-index l.places)
