use Rattle.std.proofs.lemmas.Result.{err_from_is_err_and}
use Rattle.pec_grammar.specs.Dependent.{times_at}
use Rattle.pec_grammar.specs.Reading.{standing}
use Rattle.pec_grammar.proofs.Loops.{fails_by}
use Rattle.pec_grammar.proofs.TimesLemmas.{times_goes_on, times_stops, times_ends}
use Rattle.pec_records.specs.EntryReading.{address_at}
use Rattle.pec_records.proofs.addresses.so_many_addresses.Goals as goal

pub returns-in_err-address : goal.returns-in_err-address
returns-in_err-address c =
    let p = err_from_is_err_and c.from_residual.result c.from_residual.ensures.1 in
    rw (p.1, p.2)
    (fails_by c.in_err-address.field-0.0 (address_at (standing c.loop-left.at)) (times_at address_at c.args.count (standing c.args.at)) c.in_err-address.ensures
    (λ stop stops. times_stops address_at c.loop-left.left (standing c.loop-left.at) c.loop-left.addresses.items stop _ c.loop-left-test.true stops c.loop-left.invariant))

pub loop-left-preserved : goal.loop-left-preserved
loop-left-preserved c =
    rw c.in_ok-push.ensures.items
    (times_goes_on address_at _ _ _ _ _ _ c.loop-left-test.true c.in_ok-address.ensures c.loop-left.invariant)

pub returns : goal.returns
returns c = times_ends address_at _ _ _ _ c.loop-left-test.false c.loop-left.invariant
