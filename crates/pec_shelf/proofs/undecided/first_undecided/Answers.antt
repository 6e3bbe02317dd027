use Rattle.pec_shelf.specs.Undecided.{is_open, pairs_at}
use Rattle.pec_shelf.proofs.LoopLemmas.{pair_here, pair_later}
use Rattle.pec_shelf.proofs.undecided.first_undecided.Goals as goal

pub returns-in-Some : goal.returns-in-Some
returns-in-Some c =
    pair_here (is_open c.args.decided.now.rows) (pairs_at c.args.taken.now.rows) c.args.places.now c.loop-place.place-index 0 _ c.loop-place-test.true c.loop-place.invariant c.in-Some.ensures

pub loop-place-preserved : goal.loop-place-preserved
loop-place-preserved c =
    pair_later (is_open c.args.decided.now.rows) (pairs_at c.args.taken.now.rows) c.args.places.now c.loop-place.place-index 0 c.loop-place-test.true c.loop-place.invariant c.in-None.ensures
