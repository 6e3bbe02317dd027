use Rattle.pec_cert.proofs.CertificateLaws.{text_only}
use Rattle.pec_cert.proofs.writing.write.Goals as goal

pub returns-clause-exact : goal.returns-clause-exact
returns-clause-exact c = text_only c.args.cert.now c.in_ok-text.text.items c.in_ok-text.ensures
