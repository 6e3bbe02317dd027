-- The envelope of a taken message: from the lemmas.
use Rattle.pec_ledger.proofs.Envelopes.{envelope_stands}
use Rattle.pec_ledger.proofs.letters.a_taken_message_has_its_envelope.Goals as goal

pub returns : goal.returns
returns c = envelope_stands
