-- One letter: one anomaly.
use Rattle.pec_letters.proofs.TextLemmas.{anomaly_is}
use Rattle.pec_letters.proofs.laws.a_message_has_one_anomaly.Goals as goal

pub returns : goal.returns
returns c = λ seals kept provider number moment message text. anomaly_is c.a_letter_has_one_text.ensures seals kept provider number moment message text
