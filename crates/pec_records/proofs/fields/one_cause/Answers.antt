use Rattle.pec_records.proofs.CauseLemmas.{cause_ends, cause_found, cause_goes_on}
use Rattle.pec_records.proofs.fields.one_cause.Goals as goal

pub returns-in-Ok : goal.returns-in-Ok
returns-in-Ok c =
    cause_found _ _ _ _ _ c.loop-cause-test.true c.loop-cause.invariant _ _ c.number.ensures c.in-Ok.ensures

pub loop-cause-preserved : goal.loop-cause-preserved
loop-cause-preserved c =
    rw c.tried-at.ensures
    (cause_goes_on _ _ _ _ _ c.loop-cause-test.true c.loop-cause.invariant _ _ c.number.ensures c.in-Err.ensures)

pub returns : goal.returns
returns c = cause_ends _ _ _ _ c.loop-cause-test.false c.loop-cause.invariant
