-- One world: from the lemma and the law of zones.
use Rattle.pec_trade.proofs.WorldLemmas.{one_world}
use Rattle.pec_trade.proofs.worlds.a_directory_has_one_world.Goals as goal

pub returns : goal.returns
returns c = one_world (λ text one other. c.a_rule_has_one_clock.ensures.one text one.zone other.zone)
