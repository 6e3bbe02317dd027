-- An anomaly is read, and certifies nothing.
use Rattle.std.proofs.Common.{Result, refl, ap}
use Rattle.pec_types.specs.Results.{◌>>=◌}
use Rattle.pec_types.specs.declared.disputes.LetterFault.{LetterFault}
use Rattle.pec_types.specs.declared.disputes.LetterFault.TheVariants as faults
use Rattle.pec_cert.specs.Zone.{stamp_of}
use Rattle.pec_directory.specs.Directory.{first_of}
use Rattle.pec_letter_parts.specs.Letters.{Letter}
use Rattle.pec_letters.proofs.AnomalyLemmas.{no_letter}
use Rattle.pec_letters.specs.Anomalies.{anomaly_contents, anomaly_heading}
use Rattle.pec_letters.specs.Seen.{seen_of}
use Rattle.pec_letters.specs.SeenReading.{view}
use Rattle.pec_letters.proofs.laws.an_anomaly_is_no_letter.Goals as goal

pub returns-clause-head : goal.returns-clause-head
unfolding anomaly_heading
returns-clause-head g c = λ sealer kept provider number moment message text lawful small before is.
    let read = c.an_anomaly_is_read.ensures (g.S.Sealer.seals sealer) kept provider number moment message text is.issuer lawful small before is.issuer_is is.text_is
    in (read.read, (read.headed, read.found.marking))

pub returns-clause-letter : goal.returns-clause-letter
returns-clause-letter g c = λ sealer kept provider number moment message text lawful small before is.
    let seals = g.S.Sealer.seals sealer
    in let stamp = stamp_of is.issuer.zone moment
    in let read = c.an_anomaly_is_read.ensures seals kept provider number moment message text is.issuer lawful small before is.issuer_is is.text_is
    in ((c.a_text_is_one_letter.ensures.letter sealer text).fault faults.Cert).1
    (no_letter seals provider (anomaly_heading (first_of is.issuer.provider.domains) number stamp message) (anomaly_contents stamp message) text refl read)

pub returns-clause-unseen : goal.returns-clause-unseen
unfolding view
returns-clause-unseen g c = λ sealer kept providers provider number moment message text lawful small before is.
    let seals = g.S.Sealer.seals sealer
    in let stamp = stamp_of is.issuer.zone moment
    in let read = c.an_anomaly_is_read.ensures seals kept provider number moment message text is.issuer lawful small before is.issuer_is is.text_is
    in ap (λ (r : Result Letter LetterFault). r >>= seen_of providers) (((c.a_text_is_one_letter.ensures.letter sealer text).fault faults.Cert).1
    (no_letter seals provider (anomaly_heading (first_of is.issuer.provider.domains) number stamp message) (anomaly_contents stamp message) text refl read))
