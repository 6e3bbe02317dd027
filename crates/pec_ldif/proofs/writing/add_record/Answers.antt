-- The front, the domains, and what stands behind them.
use Rattle.pec_ldif.specs.Writing.{provider_back, provider_front}
use Rattle.pec_ldif.proofs.WritingLemmas.{record_so}
use Rattle.pec_ldif.proofs.writing.add_record.Goals as goal

pub returns : goal.returns
returns c =
    let provider = c.args.provider.now.provider in
    record_so c.args.text.now.items c.add_front.new.text.items c.add_domains.new.text.items c.add_back.new.text.items (provider_front c.args.number provider) (provider_back provider)
    provider.domains c.domains.result.now c.domains.ensures c.in_ok-add_front.ensures c.in_ok-add_domains.ensures c.in_ok-add_back.ensures
