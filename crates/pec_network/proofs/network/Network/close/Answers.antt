use Rattle.pec_network.proofs.network.Network.close.Goals as goal

pub returns-clause-last : goal.returns-clause-last
returns-clause-last g c = rw (← c.into_providers.ensures) c.keep_all.ensures.last
