use Rattle.std.proofs.lemmas.Result.{err_from_is_err_and}
use Rattle.pec_records.proofs.AddressLoopLemmas.{rest_goes_on, rest_stops, rest_ends}
use Rattle.pec_records.proofs.addresses.address_bytes.Goals as goal

pub returns-in_err-b : goal.returns-in_err-b
returns-in_err-b c =
    let p = err_from_is_err_and c.from_residual.result c.from_residual.ensures.1 in
    rw (p.1, p.2) (rest_stops _ _ _ _ _ _ c.loop-left-test.true c.in_err-b.ensures.gives c.loop-left.invariant)

pub loop-left-preserved : goal.loop-left-preserved
loop-left-preserved c =
    rw c.in_ok-push.ensures.items
    (rest_goes_on _ _ _ _ _ _ _ _ c.loop-left-test.true c.in_ok-b.ensures.gives c.in_ok-b.ensures.next c.loop-left.invariant)

pub returns : goal.returns
returns c = rest_ends _ _ _ _ _ c.loop-left-test.false c.loop-left.invariant
