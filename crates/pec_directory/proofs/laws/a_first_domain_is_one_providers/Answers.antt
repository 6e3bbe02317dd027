-- The law of domains, from the lemmas.
use Rattle.pec_directory.proofs.IdLemmas.{address, apart, own, short}
use Rattle.pec_directory.proofs.laws.a_first_domain_is_one_providers.Goals as goal

pub returns-clause-address : goal.returns-clause-address
returns-clause-address c = address

pub returns-clause-short : goal.returns-clause-short
returns-clause-short c = short

pub returns-clause-own : goal.returns-clause-own
returns-clause-own c = own

pub returns-clause-apart : goal.returns-clause-apart
returns-clause-apart c = apart
