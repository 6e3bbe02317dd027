-- The law of sizes, from the lemmas.
use Rattle.pec_heads.proofs.LineLemmas.{size_append, ended_size, text_size}
use Rattle.pec_heads.proofs.lines.lines_have_their_size.Goals as goal

pub returns : goal.returns
returns c = record { several = size_append; ended = ended_size; text = text_size }
