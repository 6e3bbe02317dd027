-- The law of receipts as texts, from the laws of letters and of certificates.
use Rattle.pec_cert.specs.Zone.{stamp_of}
use Rattle.pec_directory.specs.Directory.{providers_of}
use Rattle.pec_receipts.proofs.TextLemmas.{receipt_is_given, receipt_is_one}
use Rattle.pec_receipts.proofs.ThereLemmas.{TextLaws, receipt_is, receipt_there, some_is}
use Rattle.pec_receipts.specs.Kinds.{row_of}
use Rattle.pec_receipts.specs.Receipts.{receipt_parts, report_of}
use Rattle.pec_receipts.proofs.composing.a_receipt_has_one_text.Goals as goal

pub returns-clause-only : goal.returns-clause-only
returns-clause-only c =
    receipt_is_given (record { letters = c.a_letter_has_one_text.ensures; certificates = c.a_certificate_has_one_text.ensures.only })

pub returns-clause-one : goal.returns-clause-one
returns-clause-one c =
    receipt_is_one (record { letters = c.a_letter_has_one_text.ensures; certificates = c.a_certificate_has_one_text.ensures.only })

pub returns-clause-text : goal.returns-clause-text
returns-clause-text c =
    let laws : TextLaws = record {
      places = c.each_cause_is_one_of_all.ensures.place;
      letters = c.a_letter_has_one_text.ensures;
      certificates = c.a_certificate_has_one_text.ensures.text;
      clock = λ issuer moment before. c.a_rule_has_one_clock.ensures.stamp issuer.zone moment before;
      written = λ providers issuer r said lawful given facts is reported.
          c.what_is_certified_can_be_written.ensures.written providers issuer.provider.name r.id (stamp_of issuer.zone r.moment) r.facts
          (report_of providers r (row_of r.kind) said) lawful given.provider_is
          (c.what_is_certified_can_be_written.ensures.issuer providers r.by issuer.provider lawful is) facts given.recipients reported;
    }
    in receipt_is laws

pub returns-clause-there : goal.returns-clause-there
returns-clause-there c = λ seals kept r original issuer is named small.
    let n = c.parts_have_one_composed_body.ensures.there (receipt_parts (providers_of kept) r original (row_of r.kind) (row_of r.kind).said issuer) small
    in let name = some_is (seals.name_of r.by) named
    in receipt_there seals kept r original issuer is name.0 name.1 n.0 n.1.0
