-- Licensed letters can be composed: from the lemmas.
use Rattle.pec_ledger.proofs.Arrivals.{ack_can, charge_can, envelope_was_sent, outcome_can}
use Rattle.pec_ledger.proofs.letters.licensed_letters_can_be_composed.Goals as goal

pub returns : goal.returns
returns c = record { envelopes = envelope_was_sent; charges = charge_can; outcomes = outcome_can; acks = ack_can }
