-- The small world meets all laws: from the lemmas.
use Rattle.pec_ledger.proofs.SmallWorldLemmas.{small_is_trade}
use Rattle.pec_ledger.proofs.examples.a_world_is_there.Goals as goal

pub returns : goal.returns
returns c = small_is_trade
