-- Which pairs are undecided, from the lemmas.
use Rattle.pec_plays.proofs.OpenLemmas.{undecided_says}
use Rattle.pec_plays.proofs.soundness.undecided_pairs.Goals as goal

pub returns : goal.returns
returns c = undecided_says
