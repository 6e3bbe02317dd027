-- The law of names, from the lemmas.
use Rattle.pec_directory.proofs.IdLemmas.{named, names, one}
use Rattle.pec_directory.proofs.laws.a_text_names_one_message.Goals as goal

pub returns-clause-named : goal.returns-clause-named
returns-clause-named c = named

pub returns-clause-names : goal.returns-clause-names
returns-clause-names c = names

pub returns-clause-one : goal.returns-clause-one
returns-clause-one c = one
