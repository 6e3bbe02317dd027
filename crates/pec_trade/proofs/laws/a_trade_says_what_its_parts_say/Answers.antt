-- Each field is what its part says.
use Rattle.std.proofs.Common.{refl}
use Rattle.pec_directory.specs.Directory.{providers_of}
use Rattle.pec_trade.proofs.FrameLemmas.{made}
use Rattle.pec_trade.proofs.GivingLemmas.{anomaly_so, anomaly_some, can_is, envelope_so, envelope_some, no_anomaly, no_envelope, no_receipt, no_refusal, receipt_so, receipt_some, refusal_so}
use Rattle.pec_trade.proofs.TradeLemmas.{accepted_so, refused_so}
use Rattle.pec_trade.proofs.laws.a_trade_says_what_its_parts_say.Goals as goal

pub returns : goal.returns
returns c = record {
  directory = λ kept seals. record {
    providers = refl;
    digest = refl;
    home = λ address. refl;
    is_account = λ provider address. refl;
    quota = λ address. refl;
    facts = λ message. refl;
    envelope_recipients = λ message. refl;
  };
  refused = λ kept seals. refused_so c.a_message_has_one_answer.ensures.refused (providers_of kept);
  accepted = λ kept seals. accepted_so c.a_message_has_one_answer.ensures.accepted (providers_of kept);
  frames = λ kept seals. made c.an_address_is_told_exactly.ensures;
  envelope = envelope_so;
  no_envelope = no_envelope;
  given = can_is;
  receipt = receipt_so;
  no_receipt = no_receipt;
  refusal = λ kept seals. refusal_so kept seals c.an_address_is_told_exactly.ensures;
  no_refusal = λ kept seals. no_refusal kept seals c.an_address_is_told_exactly.ensures;
  anomaly = anomaly_so;
  no_anomaly = no_anomaly;
  some_envelope = envelope_some c.a_letter_has_one_text.ensures;
  some_receipt = receipt_some c.a_letter_has_one_text.ensures;
  some_anomaly = λ seals kept provider entry moment message text e.
      anomaly_some seals kept provider entry moment message text ((c.a_message_has_one_anomaly.ensures seals kept provider entry moment message text).0 e);
}
