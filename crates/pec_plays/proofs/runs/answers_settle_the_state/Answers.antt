-- An answer settles the state: from the lemmas.
use Rattle.pec_plays.proofs.DoubtLemmas.{played_doubt}
use Rattle.pec_plays.proofs.SettleLemmas.{played_settled, script_settled}
use Rattle.pec_plays.proofs.runs.answers_settle_the_state.Goals as goal

pub returns : goal.returns
returns c = record { commands = played_doubt; looked = played_settled; scripts = script_settled }
