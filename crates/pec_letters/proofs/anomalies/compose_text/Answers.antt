-- What was composed is the anomaly of the provider at the number.
use Rattle.std.proofs.Common.{◌≡◌, ◌∷◌, [], Some, None, ap, sym, ◌∙◌}
use Rattle.pec_types.specs.Bytes.{Bytes}
use Rattle.pec_cert.specs.HeaderDate.{day_line_of}
use Rattle.pec_cert.specs.Zone.{stamp_of}
use Rattle.pec_directory.specs.Directory.{first_of}
use Rattle.pec_directory.specs.Fields.{service_at}
use Rattle.pec_letter_parts.specs.Contents.{Contents, lines_text}
use Rattle.pec_letter_parts.specs.Views.{contents_shown, heading_shown}
use Rattle.pec_letter_facts.specs.Certifying.{with_subject}
use Rattle.pec_letters.proofs.TextLemmas.{anomaly_alike, same_letter}
use Rattle.pec_letters.specs.Anomalies.{anomaly_contents, anomaly_heading, anomaly_name, anomaly_phrase, anomaly_prefix, subject_of}
use Rattle.pec_letters.proofs.anomalies.compose_text.Goals as goal

abbrev anomaly_of : Bytes → Bytes → Contents
anomaly_of text message = record { text = text; message = Some message; certificate = None }

pub returns : goal.returns
unfolding anomaly_heading
returns g c =
    let issuer = c.in-Some.issuer.now
    in let domain = first_of issuer.provider.domains
    in let message = c.args.message.now
    in let stamp = stamp_of issuer.zone c.args.moment
    in let stamped : c.stamp-stamp.result ≡ stamp = cc (c.stamp-stamp.ensures, c.zone.ensures.zone)
    in let headed : heading_shown c.heading_of-heading.result ≡ anomaly_heading domain c.args.number stamp message =
    c.heading_of-heading.ensures
    ∙ anomaly_alike c.as_slice-2.result.now (anomaly_name domain c.args.number) c.as_slice-3.result.now (service_at domain)
    c.as_slice-4.result.now (with_subject anomaly_prefix (subject_of message)) c.stamp-stamp.result stamp
    (c.as_slice-2.ensures.value ∙ c.in_ok-name.ensures ∙ ap (λ (d : Bytes). anomaly_name d c.args.number) c.first_domain.ensures)
    (c.as_slice-3.ensures.value ∙ c.in_ok-from.ensures ∙ ap service_at c.first_domain-2.ensures)
    (c.as_slice-4.ensures.value ∙ c.in_ok-subject-2.ensures ∙ ap (with_subject anomaly_prefix) c.in_ok-subject.ensures)
    stamped
    in let told : c.as_slice-5.result.now ≡ lines_text (day_line_of stamp ∷ anomaly_phrase ∷ []) =
    c.as_slice-5.ensures.value ∙ c.in_ok-told.ensures ∙ ap (λ (d : Bytes). lines_text (d ∷ anomaly_phrase ∷ [])) (c.as_slice.ensures.value ∙ c.in_ok-day.ensures ∙ ap day_line_of stamped)
    in let contained : contents_shown c.contents_of-contents.result ≡ anomaly_contents stamp message =
    c.contents_of-contents.ensures ∙ ap (λ (t : Bytes). anomaly_of t message) told
    in record {
      issuer = issuer;
      issuer_is = sym c.in-Some.ensures;
      text_is =
          same_letter (g.S.Sealer.seals c.args.sealer.now) c.args.provider (heading_shown c.heading_of-heading.result) (anomaly_heading domain c.args.number stamp message)
          (contents_shown c.contents_of-contents.result) (anomaly_contents stamp message) c.in_ok-text.text.items headed contained c.in_ok-text.ensures.letter;
    }
