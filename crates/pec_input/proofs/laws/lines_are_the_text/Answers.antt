use Rattle.pec_input.proofs.LineLemmas.{raw_ended, raw_last, raw_whole, said_size}
use Rattle.pec_input.proofs.laws.lines_are_the_text.Goals as goal

pub returns : goal.returns
returns c = record { whole = raw_whole; ended = raw_ended; last = raw_last; content = said_size }
