use Rattle.std.proofs.Common.{◌∙◌, subst, sym, ap, take, map}
use Rattle.pec_cert.specs.Certificate.{addressee, before_recipients}
use Rattle.pec_cert.specs.Lines.{addressee_opening, addressee_text}
use Rattle.pec_cert.specs.declared.lines.Addressee.{Addressee}
use Rattle.pec_cert.specs.declared.certificates.CertRecipient.{CertRecipient}
use Rattle.pec_cert.proofs.CheckLemmas.{Found, wrong_at, good_at, map_push, addressee_is}
use Rattle.pec_cert.proofs.PutLemmas.{taken}
use Rattle.pec_cert.proofs.values.recipients_of.Goals as goal

pub returns-in_default : goal.returns-in_default
returns-in_default c =
    let found = subst (λ o. Found o c.bytes.result.now) c.in_default.is c.in_ok-address.ensures in
    let wrong = rw c.bytes.ensures.value at found in
    wrong_at (λ (r : Addressee). addressee_opening r.certified) (λ (r : Addressee). r.address) addressee_text (before_recipients c.args.lines.now) c.args.lines.now.recipients c.loop-i.i
    c.r-item.result c.in_ok-recipient_place.field-0 (rw c.as_slice-r-items.ensures at c.loop-i-test.true) (rw c.as_slice-r-items.ensures at c.r-item.is) c.loop-i.invariant.good wrong
    c.in_ok-recipient_place.ensures

pub loop-i-preserved : goal.loop-i-preserved
loop-i-preserved c =
    let found = subst (λ o. Found o c.bytes.result.now) c.in-Some.is c.in_ok-address.ensures in
    let right = rw c.bytes.ensures.value at found in
    let more = taken c.args.lines.now.recipients c.loop-i.i c.r-item.result (rw c.as_slice-r-items.ensures at c.loop-i-test.true) (rw c.as_slice-r-items.ensures at c.r-item.is) in
    let last : CertRecipient = record { address = c.in-Some.address; certified = c.r-item.result.certified } in
    record {
      made = ap (map addressee) c.in_ok-push.ensures.items ∙ (map_push addressee c.loop-i.all.items last
          ∙ (addressee_is _ _ c.r-item.result last c.loop-i.invariant.made right.0 ∙ sym more));
      good = good_at (λ (r : Addressee). addressee_opening r.certified) (λ (r : Addressee). r.address) addressee_text (before_recipients c.args.lines.now)
          (take c.loop-i.i c.args.lines.now.recipients) _ c.r-item.result more c.loop-i.invariant.good right.1;
    }
