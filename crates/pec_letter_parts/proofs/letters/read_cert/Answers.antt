-- What is certified is what the text of the part says.
use Rattle.std.proofs.Common.{Option, ap, sym, ◌∙◌}
use Rattle.pec_types.specs.Bytes.{Bytes}
use Rattle.pec_types.specs.Results.{◌>>=◌}
use Rattle.pec_types.specs.declared.disputes.LetterFault.TheVariants.{Cert}
use Rattle.pec_cert.specs.CertificateReading.{cert_of}
use Rattle.pec_letter_parts.specs.Asking.{known, readable}
use Rattle.pec_letter_parts.specs.LettersReading.{certified_by}
use Rattle.pec_letter_parts.proofs.letters.read_cert.Goals as goal

pub returns : goal.returns
unfolding certified_by
returns c = ap (λ (o : Option Bytes). known o Cert >>= λ text. readable (cert_of text) Cert) (sym c.in-Some.ensures) ∙ c.in_ok-cert.ensures
