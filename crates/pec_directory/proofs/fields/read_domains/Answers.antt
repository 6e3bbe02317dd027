use Rattle.std.proofs.Common.{sym, ◌∙◌}
use Rattle.pec_directory.proofs.FormLemmas.{domain_none, domain_step}
use Rattle.pec_directory.proofs.fields.read_domains.Goals as goal

pub returns-in_default : goal.returns-in_default
returns-in_default c =
    sym (domain_none c.args.items.now c.loop-value.value-index c.value-item.result c.loop-value-test.true c.value-item.is c.loop-value.all.items c.loop-value.invariant (sym c.in_ok-domain.ensures ∙ c.in_default.is))

pub loop-value-preserved : goal.loop-value-preserved
loop-value-preserved c =
    rw c.in_ok-push.ensures.items
    (domain_step c.args.items.now c.loop-value.value-index c.value-item.result c.loop-value-test.true c.value-item.is c.loop-value.all.items c.loop-value.invariant _ (sym c.in_ok-domain.ensures ∙ c.in-Some.is))
