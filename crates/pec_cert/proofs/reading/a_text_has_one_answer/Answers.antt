use Rattle.pec_cert.proofs.CertificateLaws.{cert_told_exactly}
use Rattle.pec_cert.proofs.reading.a_text_has_one_answer.Goals as goal

pub returns : goal.returns
returns c = λ text. cert_told_exactly text c.an_address_is_told_exactly.ensures
