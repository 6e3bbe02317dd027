-- A first domain is an address's, so that names of messages are printable and short.
use Rattle.pec_directory.specs.Directory.{first_domain}
use Rattle.pec_letter_facts.proofs.LineLemmas.{name_printable, name_short}
use Rattle.pec_letter_facts.proofs.read_back.a_name_is_one_short_line.Goals as goal

pub returns-clause-printable : goal.returns-clause-printable
returns-clause-printable c = λ providers id lawful within.
    let domain = first_domain providers id.provider
    in name_printable c.printable_is_said_of_each_byte.ensures.each domain id.number
    (c.printable_is_said_of_each_byte.ensures.address _ (c.a_first_domain_is_one_providers.ensures.address providers domain lawful (c.a_first_domain_is_one_providers.ensures.own providers id.provider lawful within)))

pub returns-clause-short : goal.returns-clause-short
returns-clause-short c = λ providers id lawful within.
    let domain = first_domain providers id.provider
    in name_short domain id.number (c.a_first_domain_is_one_providers.ensures.short providers domain lawful (c.a_first_domain_is_one_providers.ensures.own providers id.provider lawful within))

pub returns-clause-service : goal.returns-clause-service
returns-clause-service c = λ providers provider lawful within.
    c.a_first_domain_is_one_providers.ensures.address providers (first_domain providers provider) lawful (c.a_first_domain_is_one_providers.ensures.own providers provider lawful within)
