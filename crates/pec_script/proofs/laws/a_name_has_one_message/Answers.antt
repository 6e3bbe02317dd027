use Rattle.pec_script.proofs.WordLemmas.{NamesTold, one_id}
use Rattle.pec_script.proofs.laws.a_name_has_one_message.Goals as goal

pub returns : goal.returns
returns c =
    let told : NamesTold = record { pass = c.lower_addresses_pass.ensures; address = c.a_first_domain_is_one_providers.ensures.address; own = c.a_first_domain_is_one_providers.ensures.own; named = c.a_text_names_one_message.ensures.named } in
    λ providers id other lawful is also e. one_id told providers id other lawful is also e
