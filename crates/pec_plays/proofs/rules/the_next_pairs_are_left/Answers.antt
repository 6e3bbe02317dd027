-- The pairs that are left: from the lemmas.
use Rattle.pec_plays.proofs.NextLemmas.{next_undecided}
use Rattle.pec_plays.proofs.rules.the_next_pairs_are_left.Goals as goal

pub returns : goal.returns
returns c = next_undecided
