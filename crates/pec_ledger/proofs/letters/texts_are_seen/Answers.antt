-- What is seen in texts: from the lemmas.
use Rattle.pec_ledger.proofs.Arrivals.{ack_is_seen, charge_is_seen, envelope_is_seen, envelope_names, item_is_letter_or_none, outcome_is_seen}
use Rattle.pec_ledger.proofs.letters.texts_are_seen.Goals as goal

pub returns : goal.returns
returns c = record {
  envelopes = envelope_is_seen;
  addressees = envelope_names;
  charges = charge_is_seen;
  outcomes = outcome_is_seen;
  acks = ack_is_seen;
  items = item_is_letter_or_none;
}
