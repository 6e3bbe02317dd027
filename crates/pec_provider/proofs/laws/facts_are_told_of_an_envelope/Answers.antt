use Rattle.pec_provider.proofs.ToldLemmas.{told_has, untaken}
use Rattle.pec_provider.proofs.laws.facts_are_told_of_an_envelope.Goals as goal

pub returns-clause-told : goal.returns-clause-told
returns-clause-told c = λ trade me journal id facts told.
    told_has trade me journal id c.a_taken_message_has_its_envelope.ensures facts told

pub returns-clause-untaken : goal.returns-clause-untaken
returns-clause-untaken c = λ trade me journal id none. untaken trade me journal id none
