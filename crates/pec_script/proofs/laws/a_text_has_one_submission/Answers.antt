use Rattle.pec_script.proofs.AnswerLemmas.{CausesTold, one_submitted}
use Rattle.pec_script.proofs.WordLemmas.{NamesTold}
use Rattle.pec_script.proofs.laws.a_text_has_one_submission.Goals as goal

pub returns : goal.returns
returns c =
    let told : NamesTold = record { pass = c.lower_addresses_pass.ensures; address = c.a_first_domain_is_one_providers.ensures.address; own = c.a_first_domain_is_one_providers.ensures.own; named = c.a_text_names_one_message.ensures.named } in
    let causes : CausesTold = record { passes = c.each_cause_is_one_of_all.ensures.passes; found = c.each_cause_is_one_of_all.ensures.found } in
    λ providers one other lawful is also e. one_submitted causes c.a_text_is_cut_in_one_way.ensures told providers lawful one other is also e
