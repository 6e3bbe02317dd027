use Rattle.std.proofs.Common.{◌∙◌, subst, sym, take, List, ℕ}
use Rattle.std.specs.Prelude.{codes}
use Rattle.pec_cert.specs.Certificate.{before_received}
use Rattle.pec_cert.specs.Markup.{opening, element}
use Rattle.pec_cert.proofs.CheckLemmas.{Found, wrong_at, good_at, text_is}
use Rattle.pec_cert.proofs.PutLemmas.{taken}
use Rattle.pec_cert.proofs.values.received_of.Goals as goal

pub returns-in_default : goal.returns-in_default
returns-in_default c =
    let found = subst (λ o. Found o c.bytes.result.now) c.in_default.is c.in_ok-address.ensures in
    let wrong = rw c.bytes.ensures.value at found in
    wrong_at (λ (x : List ℕ). opening (codes "ricezione")) (λ (x : List ℕ). x) (element (codes "ricezione")) (before_received c.args.lines.now) c.args.lines.now.received c.loop-i.i
    c.text-item.result c.in_ok-received_place.field-0 (rw c.as_slice-text-items.ensures at c.loop-i-test.true) (rw c.as_slice-text-items.ensures at c.text-item.is) c.loop-i.invariant.good wrong
    c.in_ok-received_place.ensures

pub loop-i-preserved : goal.loop-i-preserved
loop-i-preserved c =
    let found = subst (λ o. Found o c.bytes.result.now) c.in-Some.is c.in_ok-address.ensures in
    let right = rw c.bytes.ensures.value at found in
    let more = taken c.args.lines.now.received c.loop-i.i c.text-item.result (rw c.as_slice-text-items.ensures at c.loop-i-test.true) (rw c.as_slice-text-items.ensures at c.text-item.is) in
    record {
      made = c.in_ok-push.ensures.items ∙ (text_is _ _ c.text-item.result c.in-Some.address c.loop-i.invariant.made right.0 ∙ sym more);
      good = good_at (λ (x : List ℕ). opening (codes "ricezione")) (λ (x : List ℕ). x) (element (codes "ricezione")) (before_received c.args.lines.now)
          (take c.loop-i.i c.args.lines.now.received) _ c.text-item.result more c.loop-i.invariant.good right.1;
    }
