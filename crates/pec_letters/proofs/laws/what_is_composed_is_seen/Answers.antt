-- The letter that is read of an envelope passes the table.
use Rattle.std.proofs.Common.{Some, Result, refl, ap, ◌∙◌}
use Rattle.pec_types.specs.Results.{◌>>=◌}
use Rattle.pec_types.specs.declared.disputes.LetterFault.{LetterFault}
use Rattle.pec_cert.specs.Zone.{stamp_of}
use Rattle.pec_directory.specs.Directory.{providers_of}
use Rattle.pec_letters.proofs.HeadingLemmas.{Values, envelope_headed}
use Rattle.pec_letters.proofs.PlaceLemmas.{home_within, provider_at}
use Rattle.pec_letters.proofs.SeenLemmas.{Again, Known, Passing, seen_back}
use Rattle.pec_letter_parts.specs.Letters.{Letter}
use Rattle.pec_letters.specs.Envelopes.{envelope_certificate, envelope_contents, envelope_heading}
use Rattle.pec_letters.specs.Seen.{seen_of}
use Rattle.pec_letters.specs.SeenReading.{view}
use Rattle.pec_letters.proofs.laws.what_is_composed_is_seen.Goals as goal

pub returns : goal.returns
unfolding view stamp_of
returns g c = λ sealer kept id moment facts original text lawful has sent below before is.
    let providers = providers_of kept
    in let seals = g.S.Sealer.seals sealer
    in let issuer = is.issuer
    in let stamp = stamp_of issuer.zone moment
    in let within = home_within providers facts.sender id.provider sent.home
    in let bounded = c.facts_are_bounded.ensures.texts original has.fields has.place facts has.head has.facts_are
    in let recipients = c.facts_are_bounded.ensures.recipients has.fields facts has.facts_are.to has.facts_are.copies has.facts_are has.facts_are.to_is has.facts_are.copies_are
    in let values : Values = record {
      angled_is = c.a_value_is_one_line.ensures.angled;
      text = c.a_value_is_one_line.ensures.text;
      subject = c.a_value_is_one_line.ensures.subject;
      address = c.a_value_is_one_line.ensures.address;
      joined = c.a_value_is_one_line.ensures.joined;
    }
    in let passing : Passing providers = record {
      id = λ i field letter w b same e. c.what_is_composed_passes.ensures.id providers i field letter lawful w b same e;
      issuer = λ p letter e called. c.what_is_composed_passes.ensures.issuer providers p letter e called;
      home = λ i letter e. c.what_is_composed_passes.ensures.home providers i letter e;
      types = λ all letter e. c.what_is_composed_passes.ensures.typed providers all letter e;
      wish = c.what_is_composed_passes.ensures.wish;
      dated = c.what_is_composed_passes.ensures.dated;
    }
    in let again : Again = λ path some lower. ((c.a_list_has_one_reading.ensures.told _).value path).1 (c.joined_addresses_are_a_list.ensures.lower path some lower)
    in let known : Known providers issuer.provider id facts original = record {
      within = within;
      below = below;
      issuer_is = provider_at kept id.provider issuer is.issuer_is;
      home = sent.home;
      fields = has.fields;
      place = has.place;
      read = ((c.a_text_has_one_reading.ensures.told original).value (has.fields, has.place)).1 has.head;
      facts_are = (c.a_head_has_one_account.ensures.told has.fields (Some facts)).1 has.facts_are;
      bounded = bounded;
      order = recipients.order;
    }
    in let headed = envelope_headed values providers id stamp facts
    (c.a_name_is_one_short_line.ensures.printable providers id lawful within) (c.a_name_is_one_short_line.ensures.short providers id lawful within)
    (c.a_name_is_one_short_line.ensures.service providers id.provider lawful within) (c.a_rule_has_one_clock.ensures.stamp issuer.zone moment before) bounded
    in let back = c.a_composed_letter_is_read_back.ensures.letter seals id.provider (envelope_heading providers id stamp facts) (envelope_contents providers id stamp facts original is.certificate)
    (envelope_certificate providers issuer.provider.name id stamp facts) is.certificate text headed refl is.certificate_is is.text_is
    in ap (λ (r : Result Letter LetterFault). r >>= seen_of providers) (((c.a_text_is_one_letter.ensures.letter sealer text).value back.0).1 back.1.0)
    ∙ seen_back providers issuer.provider id stamp facts original back.0 passing again known back.1.1
