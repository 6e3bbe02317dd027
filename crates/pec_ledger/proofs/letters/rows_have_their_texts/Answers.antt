-- What stands behind rows: from the lemmas.
use Rattle.pec_ledger.proofs.Arrivals.{ack_licensed, charge_licensed, decided_at_home, envelope_licensed, has_original, outcome_licensed, own_known, taken_envelope, taken_pair}
use Rattle.pec_ledger.proofs.ItemBytes.{items_have_texts, one_text}
use Rattle.pec_ledger.proofs.letters.rows_have_their_texts.Goals as goal

pub returns : goal.returns
returns c = record {
  originals = has_original;
  envelopes = envelope_licensed;
  takings = taken_envelope;
  charges = charge_licensed;
  outcomes = outcome_licensed;
  decisions = taken_pair;
  homes = decided_at_home;
  knowns = own_known;
  acks = ack_licensed;
  one = one_text;
  items = items_have_texts;
}
