-- The heading of an anomaly may stand.
use Rattle.std.proofs.Common.{◌≤◌, codes, length, subst, ap}
use Rattle.pec_types.specs.Address.{IsLowerAddress}
use Rattle.pec_types.specs.Bytes.{Bytes}
use Rattle.pec_types.specs.Text.{AllPrintable}
use Rattle.pec_cert.specs.Zone.{stamp_of}
use Rattle.pec_directory.specs.Directory.{first_domain, first_domain_in, first_of, providers_of}
use Rattle.pec_directory.specs.Fields.{service_at}
use Rattle.pec_letters.proofs.AnomalyLemmas.{name_short, name_shows, subject_short}
use Rattle.pec_letters.proofs.HeadingLemmas.{Values, anomaly_headed}
use Rattle.pec_letters.proofs.PlaceLemmas.{at_within, provider_at}
use Rattle.pec_letters.specs.Anomalies.{anomaly_contents, anomaly_heading}
use Rattle.pec_letters.proofs.laws.an_anomaly_is_read.Goals as goal

pub returns : goal.returns
unfolding first_domain
returns c = λ seals kept provider number moment message text issuer lawful small before at is.
    let providers = providers_of kept
    in let domain = first_of issuer.provider.domains
    in let stamp = stamp_of issuer.zone moment
    in let here = provider_at kept provider issuer at
    in let values : Values = record {
      angled_is = c.a_value_is_one_line.ensures.angled;
      text = c.a_value_is_one_line.ensures.text;
      subject = c.a_value_is_one_line.ensures.subject;
      address = c.a_value_is_one_line.ensures.address;
      joined = c.a_value_is_one_line.ensures.joined;
    }
    in let service : IsLowerAddress (service_at domain) =
    subst (λ (d : Bytes). IsLowerAddress (service_at d)) (ap first_domain_in here) (c.a_name_is_one_short_line.ensures.service providers provider lawful (at_within providers provider issuer.provider here))
    in let address : AllPrintable (service_at domain) × (length (service_at domain) ≤ 254) = c.a_value_is_one_line.ensures.address (service_at domain) service
    in let headed = anomaly_headed values domain number stamp message
    (name_shows c.printable_is_said_of_each_byte.ensures.each c.a_value_is_one_line.ensures.joined domain number address.0 small)
    (name_short domain number address.1 small) service (c.a_rule_has_one_clock.ensures.stamp issuer.zone moment before)
    (subject_short (c.facts_are_bounded.ensures.short (codes "Subject")) message)
    in c.a_composed_letter_is_read_back.ensures.read seals provider (anomaly_heading domain number stamp message) (anomaly_contents stamp message) text headed is
