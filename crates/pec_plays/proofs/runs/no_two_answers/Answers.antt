-- No two answers name one pair: from the lemmas and the laws of soundness, rows and guarantees.
use Rattle.pec_plays.proofs.RunLemmas.{decided_differ, learned_differ}
use Rattle.pec_plays.proofs.runs.no_two_answers.Goals as goal

pub returns : goal.returns
returns c = record {
  decided = λ trade world lucks sites commands sound given.
      decided_differ trade (c.the_guarantees.ensures.one_outcome trade) (c.a_network_stays_sound.ensures.commands trade world)
      (c.a_network_stays_sound.ensures.ends trade world) lucks sites commands sound given
      (c.rows_have_their_texts.ensures.homes trade);
  learned = λ trade world lucks sites commands sound given.
      learned_differ trade (c.the_guarantees.ensures.one_outcome trade) (c.a_network_stays_sound.ensures.commands trade world)
      (c.a_network_stays_sound.ensures.ends trade world) lucks sites commands sound given
      (c.rows_have_their_texts.ensures.knowns trade);
}
