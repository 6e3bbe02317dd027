use Rattle.pec_cert.proofs.CertificateLaws.{one_fault}
use Rattle.pec_cert.proofs.CertificateLemmas.{one_cert, one_spelling, never_both}
use Rattle.pec_cert.proofs.reading.one_text.Goals as goal

pub returns : goal.returns
returns c = record { value = one_cert; text = one_spelling; fault = one_fault c.an_address_is_told_exactly.ensures; either = never_both }
