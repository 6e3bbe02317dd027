use Rattle.std.proofs.Common.{◌≡◌, true, false, not, length, refl, sym, ap, subst, ◌∙◌, rules}
use Rattle.pec_directory.proofs.EnteringLemmas.{Answers, entered, met, unmet}
use Rattle.pec_directory.proofs.settling.enter.Goals as goal

pub returns-then-not-branch-clause-once : goal.returns-then-not-branch-clause-once
returns-then-not-branch-clause-once c =
    let kept = c.args.providers.now in
    let domains = c.args.domains.now in
    let i = c.loop-domain.domain-index in
    let no : c.in_ok-add.field-0 ≡ false = search rules in
    let answer = rw (c.bytes.ensures.value) at c.in_ok-add.ensures.added in
    let twice =
    met c.add.new.self c.loop-domain.homes kept (length kept) refl domains i c.domain-item.result c.loop-domain-test.true c.domain-item.is c.loop-domain.invariant.finds
    (subst (Answers c.add.new.self c.loop-domain.homes kept (length kept) refl domains i c.domain-item.result c.loop-domain-test.true c.domain-item.is c.loop-domain.invariant.finds) no answer) in
    ap not (sym twice ∙ c.loop-domain.invariant.once)

pub loop-domain-preserved : goal.loop-domain-preserved
loop-domain-preserved c =
    let kept = c.args.providers.now in
    let domains = c.args.domains.now in
    let i = c.loop-domain.domain-index in
    let yes : c.in_ok-add.field-0 ≡ true = search rules in
    let answer = rw (c.bytes.ensures.value) at c.in_ok-add.ensures.added in
    let those =
    subst (Answers c.add.new.self c.loop-domain.homes kept (length kept) refl domains i c.domain-item.result c.loop-domain-test.true c.domain-item.is c.loop-domain.invariant.finds) yes answer in
    record {
      finds = entered c.add.new.self c.loop-domain.homes kept (length kept) refl domains i c.domain-item.result c.loop-domain-test.true c.domain-item.is c.loop-domain.invariant.finds those;
      once =
          unmet c.add.new.self c.loop-domain.homes kept (length kept) refl domains i c.domain-item.result c.loop-domain-test.true c.domain-item.is c.loop-domain.invariant.finds those
          ∙ c.loop-domain.invariant.once;
    }
