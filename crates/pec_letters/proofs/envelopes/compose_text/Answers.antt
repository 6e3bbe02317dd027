-- What was composed is the envelope of the provider of the message.
use Rattle.std.proofs.Common.{◌≡◌, Some, map, option_map, slice_get, ap, subst, sym, ◌∙◌}
use Rattle.pec_types.specs.Bytes.{Bytes}
use Rattle.pec_types.specs.Message.{Id}
use Rattle.pec_heads.specs.BoundedFacts.{addresses_where, is_copy, is_primary}
use Rattle.pec_cert.specs.Certificate.{IsCert}
use Rattle.pec_cert.specs.Stamp.{Instant}
use Rattle.pec_cert.specs.Zone.{stamp_of}
use Rattle.pec_directory.specs.Directory.{Provider, first_domain, providers_of}
use Rattle.pec_directory.specs.Fields.{service_at}
use Rattle.pec_letter_parts.specs.Contents.{Contents, parts_of}
use Rattle.pec_letter_parts.specs.Headings.{Heading}
use Rattle.pec_letter_parts.specs.Sealing.{IsLetterText}
use Rattle.pec_letter_facts.specs.Certifying.{name_of, told_text, with_subject}
use Rattle.pec_letters.proofs.PlaceLemmas.{is_some_of, provider_at}
use Rattle.pec_letters.proofs.TextLemmas.{raw_alike, raw_heading, same_letter}
use Rattle.pec_letters.specs.Envelopes.{envelope_certificate, envelope_contents, envelope_heading, envelope_phrase, envelope_prefix, on_behalf}
use Rattle.pec_letters.proofs.envelopes.compose_text.Goals as goal

abbrev contents_with : Bytes → Bytes → Bytes → Contents
contents_with text original certificate = record { text = text; message = Some original; certificate = Some certificate }

pub compose_with-requires : goal.compose_with-requires
compose_with-requires g c =
    let kept = c.args.directory.now
    in let issuer = c.in-Some.issuer.now
    in let names = (g.S.Sealer.seals c.args.sealer.now).name_of
    in let at : slice_get kept c.args.id.provider ≡ Some issuer = ap (λ (i : Id). slice_get kept i.provider) (sym c.id.view_is) ∙ sym c.in-Some.ensures
    in let named : names c.id-2.inside.provider ≡ Some issuer.provider.name =
    ap (λ (i : Id). names i.provider) c.id-2.view_is ∙ c.requires.fits.names c.args.id.provider
    ∙ ap (option_map (λ (provider : Provider). provider.name)) (provider_at kept c.args.id.provider issuer at)
    in is_some_of (names c.id-2.inside.provider) issuer.provider.name named

pub returns : goal.returns
unfolding envelope_heading
returns g c =
    let seals = g.S.Sealer.seals c.args.sealer.now
    in let kept = c.args.directory.now
    in let providers = providers_of kept
    in let issuer = c.in-Some.issuer.now
    in let id = c.args.id
    in let facts = c.args.facts.now
    in let original = c.args.original.now
    in let stamp = stamp_of issuer.zone c.args.moment
    in let words = c.in_ok-words.words
    in let w = c.in_ok-words.ensures
    in let certificate = words.certificate.items
    in let text = c.in_ok-text.text.items
    in let stamped : c.stamp-stamp.result ≡ stamp = cc (c.stamp-stamp.ensures, c.zone.ensures.zone)
    in let to : map (λ address. address.now) c.as_slice-4.result.now ≡ addresses_where is_primary facts.recipients =
    ap (map (λ address. address.now)) c.as_slice-4.ensures.value ∙ c.in_ok-to.ensures ∙ ap (addresses_where is_primary) c.as_slice.ensures
    in let copies : map (λ address. address.now) c.as_slice-5.result.now ≡ addresses_where is_copy facts.recipients =
    ap (map (λ address. address.now)) c.as_slice-5.ensures.value ∙ c.in_ok-copies.ensures ∙ ap (addresses_where is_copy) c.as_slice-2.ensures
    in let raw : Heading =
    raw_heading facts.wish c.bytes.result.now (option_map (λ bytes. bytes.now) c.reference.result) c.as_slice-3.result.now c.bytes-2.result.now c.as_slice-6.result.now c.stamp-stamp.result
    (map (λ address. address.now) c.as_slice-4.result.now) (map (λ address. address.now) c.as_slice-5.result.now)
    in let headed : raw ≡ envelope_heading providers id stamp facts =
    raw_alike facts.wish c.bytes.result.now (name_of providers id) (option_map (λ bytes. bytes.now) c.reference.result) facts.reference
    c.as_slice-3.result.now (on_behalf facts.sender (service_at (first_domain providers id.provider))) c.bytes-2.result.now facts.reply
    c.as_slice-6.result.now (with_subject envelope_prefix facts.subject) c.stamp-stamp.result stamp
    (map (λ address. address.now) c.as_slice-4.result.now) (addresses_where is_primary facts.recipients) (map (λ address. address.now) c.as_slice-5.result.now) (addresses_where is_copy facts.recipients)
    (c.bytes.ensures.value ∙ w.name) (c.reference.ensures ∙ w.reference) (c.as_slice-3.ensures.value ∙ w.from) c.bytes-2.ensures.value (c.as_slice-6.ensures.value ∙ w.subject) stamped to copies
    in let told : words.text.items ≡ told_text providers id stamp facts envelope_phrase = w.text ∙ ap (λ (s : Instant). told_text providers id s facts envelope_phrase) stamped
    in let contained : contents_with c.as_slice-7.result.now original c.as_slice-8.result.now ≡ envelope_contents providers id stamp facts original certificate =
    ap (λ (t : Bytes). contents_with t original c.as_slice-8.result.now) (c.as_slice-7.ensures.value ∙ told)
    ∙ ap (λ (k : Bytes). contents_with (told_text providers id stamp facts envelope_phrase) original k) c.as_slice-8.ensures.value
    in record {
      issuer = issuer;
      certificate = certificate;
      issuer_is = ap (λ (i : Id). slice_get kept i.provider) (sym c.id.view_is) ∙ sym c.in-Some.ensures;
      certificate_is =
          subst (λ (n : Bytes). IsCert (envelope_certificate providers n id stamp facts) certificate) c.name.ensures
          (subst (λ (s : Instant). IsCert (envelope_certificate providers c.name.result.now id s facts) certificate) stamped w.certificate);
      text_is =
          subst (λ (i : Id). IsLetterText seals i.provider (envelope_heading providers id stamp facts) (parts_of (envelope_contents providers id stamp facts original certificate)) text) c.id-2.view_is
          (same_letter seals c.id-2.inside.provider raw (envelope_heading providers id stamp facts) (contents_with c.as_slice-7.result.now original c.as_slice-8.result.now)
          (envelope_contents providers id stamp facts original certificate) text headed contained c.in_ok-text.ensures);
    }
