use Rattle.pec_grammar.proofs.Loops.{choice_found, choice_goes_on, choice_ends}
use Rattle.pec_grammar.proofs.words.one_of.Goals as goal

pub returns-in-Ok : goal.returns-in-Ok
returns-in-Ok g c = choice_found _ _ c.loop-bytes-item.result _ _ _ c.loop-bytes-test.true c.loop-bytes-item.is c.in-Ok.ensures c.loop-bytes.invariant

pub loop-bytes-preserved : goal.loop-bytes-preserved
loop-bytes-preserved g c =
    rw c.tried-at.ensures (choice_goes_on _ _ c.loop-bytes-item.result _ _ _ c.loop-bytes-test.true c.loop-bytes-item.is c.in-Err.ensures c.loop-bytes.invariant)

pub returns : goal.returns
returns g c = choice_ends _ _ _ _ c.loop-bytes-test.false c.loop-bytes.invariant
