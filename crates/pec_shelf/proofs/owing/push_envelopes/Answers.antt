use Rattle.pec_shelf.specs.Still.{envelope_in}
use Rattle.pec_shelf.proofs.LoopLemmas.{flat_behind}
use Rattle.pec_shelf.proofs.owing.push_envelopes.Goals as goal

pub loop-number-preserved : goal.loop-number-preserved
loop-number-preserved c =
    flat_behind (envelope_in c.args.outbox.now.me c.args.shelf.now.half c.args.to c.args.outbox.now.messages) c.args.numbers.now c.loop-number.number-index 0 _ _ _ c.loop-number-test.true c.loop-number.invariant c.in_ok-push_envelope_of.ensures
