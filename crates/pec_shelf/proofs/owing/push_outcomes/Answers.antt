use Rattle.pec_shelf.specs.Still.{outcome_in}
use Rattle.pec_shelf.proofs.LoopLemmas.{flat_behind}
use Rattle.pec_shelf.proofs.owing.push_outcomes.Goals as goal

pub loop-place-preserved : goal.loop-place-preserved
loop-place-preserved c =
    flat_behind (outcome_in c.args.shelf.now.half c.args.to c.args.fates.now) c.args.places.now c.loop-place.place-index 0 _ _ _ c.loop-place-test.true c.loop-place.invariant c.in_ok-push_outcome_at.ensures
