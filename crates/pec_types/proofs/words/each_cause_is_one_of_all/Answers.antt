-- The law of all causes, from the lemmas.
use Rattle.pec_types.proofs.CauseLemmas.{by_place, found, passes}
use Rattle.pec_types.proofs.words.each_cause_is_one_of_all.Goals as goal

pub returns-clause-place : goal.returns-clause-place
returns-clause-place c = by_place

pub returns-clause-passes : goal.returns-clause-passes
returns-clause-passes c = passes

pub returns-clause-found : goal.returns-clause-found
returns-clause-found c = found
