-- At most 900 bytes.
use Rattle.pec_heads.specs.FactsOfHeads.{front_of}
use Rattle.pec_heads.proofs.facts.front.Goals as goal

pub returns : goal.returns
unfolding front_of
returns c = c.at_most.ensures
