use Rattle.pec_script.proofs.ItemLemmas.{alike_vaults}
use Rattle.pec_script.proofs.WordLemmas.{NamesTold}
use Rattle.pec_script.proofs.laws.a_text_has_one_archive.Goals as goal

pub returns : goal.returns
returns c =
    let told : NamesTold = record { pass = c.lower_addresses_pass.ensures; address = c.a_first_domain_is_one_providers.ensures.address; own = c.a_first_domain_is_one_providers.ensures.own; named = c.a_text_names_one_message.ensures.named } in
    λ providers lines others lawful all alls few less e. alike_vaults c.a_text_is_cut_in_one_way.ensures told providers lawful lines others all alls few less e
