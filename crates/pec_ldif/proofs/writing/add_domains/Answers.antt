-- One domain more.
use Rattle.pec_ldif.proofs.WritingLemmas.{domain_more}
use Rattle.pec_ldif.proofs.writing.add_domains.Goals as goal

pub loop-domain-preserved : goal.loop-domain-preserved
loop-domain-preserved c =
    domain_more c.args.text.now.items c.loop-domain.text.items c.add_attribute.new.text.items c.args.domains.now c.loop-domain.domain-index c.domain-item.result c.bytes.result.now
    c.loop-domain-test.true c.domain-item.is c.bytes.ensures.value c.loop-domain.invariant c.in_ok-add_attribute.ensures
