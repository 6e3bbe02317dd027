-- The original of an accepted message: from the lemmas.
use Rattle.pec_ledger.proofs.Originals.{original_stands}
use Rattle.pec_ledger.proofs.letters.an_accepted_message_has_its_original.Goals as goal

pub returns : goal.returns
returns c = original_stands
