use Rattle.pec_network.proofs.laws.few_providers.Goals as goal

pub returns : goal.returns
returns c = rw (← c.count.ensures.count) c.count.ensures.few
