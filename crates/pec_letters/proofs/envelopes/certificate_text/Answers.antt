-- The certificate has the recipients of the facts.
use Rattle.std.proofs.Common.{◌≡◌, length, map, ap, arith}
use Rattle.std.proofs.lemmas.List.{length-map}
use Rattle.pec_cert.specs.declared.certificates.CertData.{CertData}
use Rattle.pec_directory.specs.Directory.{providers_of}
use Rattle.pec_letter_facts.specs.Certifying.{certificate_of, typed}
use Rattle.pec_letters.proofs.envelopes.certificate_text.Goals as goal

pub write-requires : goal.write-requires
unfolding certificate_of
write-requires c =
    let same : c.in_ok-cert.cert.recipients ≡ map (typed (providers_of c.args.directory.now)) c.args.facts.now.recipients = ap (λ (cert : CertData). cert.recipients) c.in_ok-cert.ensures
    in omega (arith, ap length same, length-map c.args.facts.now.recipients (typed (providers_of c.args.directory.now)), c.requires.some)
