use Rattle.std.proofs.lemmas.Result.{err_from_is_err_and}
use Rattle.pec_grammar.proofs.Loops.{word_goes_on, word_stops, word_ends}
use Rattle.pec_grammar.proofs.words.word.Goals as goal

pub returns-in_err-at : goal.returns-in_err-at
returns-in_err-at c =
    let p = err_from_is_err_and c.from_residual.result c.from_residual.ensures.1 in
    rw (p.1, p.2) (word_stops _ _ _ _ _ c.loop-b-test.true c.in_err-at.ensures c.loop-b.invariant)

pub loop-b-preserved : goal.loop-b-preserved
loop-b-preserved c = word_goes_on _ _ _ _ _ c.loop-b-test.true c.in_ok-at.ensures c.loop-b.invariant

pub returns : goal.returns
returns c = word_ends _ _ _ _ c.loop-b-test.false c.loop-b.invariant
