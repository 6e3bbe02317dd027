-- Journals go on: from the lemmas.
use Rattle.pec_plays.proofs.GoesOnLemmas.{played_goes_on}
use Rattle.pec_plays.proofs.runs.a_command_appends.Goals as goal

pub returns : goal.returns
returns c = λ trade sites luck command provider. played_goes_on trade sites luck command provider
