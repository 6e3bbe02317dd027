use Rattle.pec_script.proofs.AnswerLemmas.{same_event}
use Rattle.pec_script.proofs.WordLemmas.{NamesTold}
use Rattle.pec_script.proofs.laws.words_have_one_event.Goals as goal

pub returns : goal.returns
returns c =
    let told : NamesTold = record { pass = c.lower_addresses_pass.ensures; address = c.a_first_domain_is_one_providers.ensures.address; own = c.a_first_domain_is_one_providers.ensures.own; named = c.a_text_names_one_message.ensures.named } in
    λ providers one other lawful is also e. same_event told providers lawful one other is also e
