-- One certification text, one letter: one envelope.
use Rattle.pec_cert.specs.Zone.{stamp_of}
use Rattle.pec_directory.specs.Directory.{providers_of}
use Rattle.pec_heads.specs.BoundedFacts.{is_primary}
use Rattle.pec_letters.proofs.PlaceLemmas.{home_within, provider_at, some_is, some_of_some}
use Rattle.pec_letters.proofs.TextLemmas.{envelope_is, envelope_only, envelope_there}
use Rattle.pec_letters.specs.Envelopes.{envelope_certificate, envelope_parts, envelope_report}
use Rattle.pec_letter_facts.specs.Certifying.{certificate_of}
use Rattle.pec_letters.proofs.laws.a_message_has_one_envelope.Goals as goal

pub returns-clause-only : goal.returns-clause-only
returns-clause-only c = λ seals kept id moment facts original text is.
    envelope_only c.a_letter_has_one_text.ensures c.a_certificate_has_one_text.ensures.only seals kept id moment facts original text is

pub returns-clause-text : goal.returns-clause-text
unfolding certificate_of
returns-clause-text c = λ seals kept id moment facts original text lawful has sent before e.
    let providers = providers_of kept
    in let bounded = c.facts_are_bounded.ensures.texts original has.fields has.place facts has.head has.facts_are
    in let recipients = c.facts_are_bounded.ensures.recipients has.fields facts has.facts_are.to has.facts_are.copies has.facts_are has.facts_are.to_is has.facts_are.copies_are
    in let within = home_within providers facts.sender id.provider sent.home
    in envelope_is c.a_letter_has_one_text.ensures seals kept id moment facts original text
    (λ issuer is.
    let stamp = stamp_of issuer.zone moment
    in let stamped = c.a_rule_has_one_clock.ensures.stamp issuer.zone moment before
    in c.a_certificate_has_one_text.ensures.text (envelope_certificate providers issuer.provider.name id stamp facts)
    (c.what_is_certified_can_be_written.ensures.written providers issuer.provider.name id stamp facts (envelope_report facts.wish) lawful within
    (c.what_is_certified_can_be_written.ensures.issuer providers id.provider issuer.provider lawful (provider_at kept id.provider issuer is))
    (c.what_is_certified_can_be_written.ensures.facts facts bounded)
    (some_of_some is_primary facts.recipients recipients.some)
    (record { delivered = tt; received = tt; detail = tt }))
    stamped)
    e

pub returns-clause-there : goal.returns-clause-there
returns-clause-there c = λ seals kept id moment facts original issuer is named small.
    let n = c.parts_have_one_composed_body.ensures.there (envelope_parts (providers_of kept) id moment facts original issuer) small
    in let name = some_is (seals.name_of id.provider) named
    in envelope_there seals kept id moment facts original issuer is name.0 name.1 n.0 n.1.0
