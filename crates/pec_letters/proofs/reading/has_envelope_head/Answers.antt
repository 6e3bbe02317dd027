-- A text whose head isn't an envelope's is none.
use Rattle.std.proofs.Common.{sym, ◌∙◌}
use Rattle.pec_letter_parts.specs.Views.{headed_shown}
use Rattle.pec_letters.proofs.BehindLemmas.{other_head}
use Rattle.pec_letters.proofs.reading.has_envelope_head.Goals as goal

pub returns-clause-none : goal.returns-clause-none
returns-clause-none c = λ seals providers text read unmarked.
    other_head seals providers text (headed_shown c.args.headed.now) read (sym c.is_marked.ensures ∙ unmarked)
