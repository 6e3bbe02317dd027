-- The head of a message that has facts: from the lemmas.
use Rattle.pec_outgoing.proofs.FactsLemmas.{head_of_facts}
use Rattle.pec_outgoing.proofs.texts.facts_are_those_of_a_head.Goals as goal

pub returns : goal.returns
returns c = head_of_facts c.a_text_has_one_reading.ensures.told c.a_head_has_one_account.ensures.told
