use Rattle.std.proofs.Common.{subst, Err}
use Rattle.pec_cert.specs.Checking.{Looks}
use Rattle.pec_cert.specs.Front.{recipient_part}
use Rattle.pec_cert.proofs.CertificateLaws.{stamp_told, stamp_is}
use Rattle.pec_cert.proofs.FrontLaws.{recipient_less}
use Rattle.pec_cert.proofs.FrontLemmas.{looks_first, looks_on, looks_end, looks_fault}
use Rattle.pec_cert.proofs.wrong.other_recipients.Goals as goal

pub others-init : goal.others-init
others-init c = looks_first (recipient_part c.args.size).look c.args.text.now

pub returns-in-Err-Stop : goal.returns-in-Err-Stop
returns-in-Err-Stop c =
    let stopped = subst (λ r. Looks r ((recipient_part c.args.size).look c.others.rest.now)) c.in-Err-Stop.is c.recipient.ensures in
    let here = subst (λ h. Looks (Err h) ((recipient_part c.args.size).look c.others.rest.now)) c.in-Err-Stop.field-0-is stopped in
    looks_end (recipient_part c.args.size).look c.others.rest.now _ c.others.invariant here

pub returns-in-Err-Wrong : goal.returns-in-Err-Wrong
returns-in-Err-Wrong c =
    let stopped = subst (λ r. Looks r ((recipient_part c.args.size).look c.others.rest.now)) c.in-Err-Wrong.is c.recipient.ensures in
    let here = subst (λ h. Looks (Err h) ((recipient_part c.args.size).look c.others.rest.now)) c.in-Err-Wrong.field-0-is stopped in
    rw c.in-Err-Wrong.fault-is (looks_fault (recipient_part c.args.size).look c.others.rest.now c.in-Err-Wrong.fault _ c.others.invariant here)

pub others-smaller : goal.others-smaller
others-smaller c = recipient_less c.an_address_is_told_exactly.ensures stamp_told stamp_is c.others.rest.now c.args.size c.in-Ok.behind.now (subst (λ r. Looks r ((recipient_part c.args.size).look c.others.rest.now)) c.in-Ok.is c.recipient.ensures)

pub others-preserved : goal.others-preserved
others-preserved c =
    let read = subst (λ r. Looks r ((recipient_part c.args.size).look c.others.rest.now)) c.in-Ok.is c.recipient.ensures in
    let less = recipient_less c.an_address_is_told_exactly.ensures stamp_told stamp_is c.others.rest.now c.args.size c.in-Ok.behind.now read in
    looks_on (recipient_part c.args.size).look c.others.rest.now c.in-Ok.behind.now _ c.others.invariant read less
