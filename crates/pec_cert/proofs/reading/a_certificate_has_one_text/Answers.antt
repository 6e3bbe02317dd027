use Rattle.pec_cert.proofs.CertificateLaws.{text_right, text_only}
use Rattle.pec_cert.proofs.reading.a_certificate_has_one_text.Goals as goal

pub returns : goal.returns
returns c = record { text = text_right; only = text_only }
