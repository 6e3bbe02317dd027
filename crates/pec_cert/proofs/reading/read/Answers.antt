use Rattle.pec_types.specs.Answers.{told_is_read}
use Rattle.pec_cert.specs.Certificate.{IsCert, IsCertFault}
use Rattle.pec_cert.specs.CertificateReading.{cert_of}
use Rattle.pec_cert.specs.declared.certificates.CertData.{CertData}
use Rattle.pec_cert.specs.declared.faults.CertFault.TheVariants.{NoMemory}
use Rattle.pec_cert.proofs.reading.read.Goals as goal

pub returns-clause-reads : goal.returns-clause-reads
returns-clause-reads c =
    let text = c.args.text.now in
    told_is_read (λ (cert : CertData). IsCert cert text) (IsCertFault text) NoMemory c.read_text.result (cert_of text) (c.a_text_has_one_answer.ensures text) c.read_text.ensures
