use Rattle.pec_playing.proofs.LineLemmas.{line_can}
use Rattle.pec_playing.proofs.laws.what_a_line_says_can_be_played.Goals as goal

pub returns : goal.returns
returns c = λ kept line command short e. line_can c.a_line_has_one_reading.ensures kept line command short e
