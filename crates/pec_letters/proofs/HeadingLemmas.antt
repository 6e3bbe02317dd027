-- The headings of envelopes and anomalies may stand in letters.
use Rattle.std.proofs.Common.{◌≡◌, ℕ, ◌+◌, ◌<◌, ◌≤◌, ◌^◌, Bool, true, false, cond, List, [], ◌∷◌, ◌++◌, map, length, Option, None, Some, codes, refl, ap, sym, ◌∙◌, subst, arith, length-append}
use Rattle.std.specs.Fmt.{decimal}
use Rattle.std.specs.List.{AllByRecursion}
use Rattle.std.specs.Option.{IfSome}
use Rattle.pec_types.specs.Address.{IsLowerAddress}
use Rattle.pec_types.specs.Bytes.{Bytes, Path}
use Rattle.pec_types.specs.Message.{Id}
use Rattle.pec_types.specs.Text.{AllPrintable}
use Rattle.pec_types.specs.declared.messages.Facts.{Facts}
use Rattle.pec_types.specs.declared.messages.Recipient.{Recipient}
use Rattle.pec_heads.specs.Bytes.{trimmed}
use Rattle.pec_heads.specs.BoundedFacts.{AreBounded, IsShortText, addresses_where, is_copy, is_primary}
use Rattle.pec_cert.specs.Stamp.{Instant, IsStamp}
use Rattle.pec_directory.specs.Directory.{Provider, first_domain}
use Rattle.pec_directory.specs.Fields.{service_at}
use Rattle.pec_letter_parts.specs.Headings.{angled}
use Rattle.pec_letter_facts.specs.Certifying.{name_of, with_subject}
use Rattle.pec_letter_facts.specs.ReadBack.{CanBeHeaded, IsShortLine, IsSubject, IsWholeLine}
use Rattle.pec_letters.specs.Anomalies.{anomaly_heading, anomaly_name, anomaly_prefix, anomaly_word, subject_of}
use Rattle.pec_letters.specs.Envelopes.{envelope_heading, envelope_prefix, envelope_word, on_behalf}

-- what the law of values says
pub record Values : Type 0 where
  pub angled_is : (name : Bytes) → AllPrintable name → length name ≤ 900 → IsShortLine (angled name)
  pub text : (text : Bytes) → IsShortText text → IsWholeLine text
  pub subject : (prefix : Bytes) (subject : Option Bytes) → AllPrintable prefix → length prefix ≤ 70 → IfSome subject IsSubject → IsShortLine (with_subject prefix subject)
  pub address : (address : Bytes) → IsLowerAddress address → AllPrintable address × (length address ≤ 254)
  pub joined : (front back : Bytes) → AllPrintable front → AllPrintable back → AllPrintable (front ++ back)

subject_is : (subject : Option Bytes) → IfSome subject IsShortText → IfSome subject IsSubject
subject_is None h = tt
subject_is (Some subject) h = record { printable = h.printable; short = h.short }

lower_where : (passes : Recipient → Bool) (all : List Recipient) → AllByRecursion (λ (r : Recipient). IsLowerAddress r.address) all → AllByRecursion IsLowerAddress (addresses_where passes all)
lower_where passes [] h = tt
lower_where passes (r ∷ all) h = kept (passes r) r.address (addresses_where passes all) h.0 (lower_where passes all h.1)
  where
    kept : (t : Bool) (address : Bytes) (rest : Path) → IsLowerAddress address → AllByRecursion IsLowerAddress rest → AllByRecursion IsLowerAddress (cond t (address ∷ rest) rest)
    kept true address rest a b = (a, b)
    kept false address rest a b = b

module _ (values : Values) where
  whole_text : (text : Option Bytes) → IfSome text IsShortText → IfSome text IsWholeLine
  whole_text None h = tt
  whole_text (Some text) h = values.text text h

  from_line : (sender service : Bytes) → IsLowerAddress sender → IsLowerAddress service → IsShortLine (on_behalf sender service)
  from_line sender service a b =
      let p : AllPrintable sender × (length sender ≤ 254) = values.address sender a
      in let q : AllPrintable service × (length service ≤ 254) = values.address service b
      in record {
        printable =
            values.joined (codes "\"Per conto di: ") (sender ++ (codes "\" <" ++ (service ++ codes ">"))) refl
            (values.joined sender (codes "\" <" ++ (service ++ codes ">")) p.0
            (values.joined (codes "\" <") (service ++ codes ">") refl (values.joined service (codes ">") q.0 refl)));
        short = omega (arith, p.1, q.1, length-append sender (codes "\" <" ++ (service ++ codes ">")), length-append service (codes ">"));
      }

  -- The heading of an envelope may stand.
  pub envelope_headed : (providers : List Provider) (id : Id) (stamp : Instant) (facts : Facts)
      → AllPrintable (name_of providers id) → length (name_of providers id) ≤ 248 → IsLowerAddress (service_at (first_domain providers id.provider))
      → IsStamp stamp → AreBounded facts → CanBeHeaded (envelope_heading providers id stamp facts)
  unfolding envelope_heading trimmed
  envelope_headed providers id stamp facts named short service is bounded = record {
    kind = record { line = record { printable = refl; short = omega arith }; whole = refl };
    name = values.angled_is (name_of providers id) named (omega arith);
    reference = whole_text facts.reference bounded.reference;
    stamp = is;
    from = from_line facts.sender (service_at (first_domain providers id.provider)) bounded.sender service;
    reply = (values.text facts.reply bounded.reply).line;
    to = lower_where is_primary facts.recipients bounded.recipients;
    copies = lower_where is_copy facts.recipients bounded.recipients;
    subject = values.subject envelope_prefix facts.subject refl (omega arith) (subject_is facts.subject bounded.subject);
  }

  -- The heading of an anomaly may stand.
  pub anomaly_headed : (domain : Bytes) (number : ℕ) (stamp : Instant) (message : Bytes)
      → AllPrintable (anomaly_name domain number) → length (anomaly_name domain number) ≤ 900 → IsLowerAddress (service_at domain)
      → IsStamp stamp → IfSome (subject_of message) IsShortText → CanBeHeaded (anomaly_heading domain number stamp message)
  unfolding anomaly_heading trimmed
  anomaly_headed domain number stamp message named short service is subject =
      let s : AllPrintable (service_at domain) × (length (service_at domain) ≤ 254) = values.address (service_at domain) service
      in record {
        kind = record { line = record { printable = refl; short = omega arith }; whole = refl };
        name = values.angled_is (anomaly_name domain number) named short;
        reference = tt;
        stamp = is;
        from = record { printable = s.0; short = omega (arith, s.1) };
        reply = tt;
        to = tt;
        copies = tt;
        subject = values.subject anomaly_prefix (subject_of message) refl (omega arith) (subject_is (subject_of message) subject);
      }
