-- The law of what is read of texts, from the laws of seals and heads, and of what is behind a head.
use Rattle.pec_letter_parts.proofs.LetterLemmas.{headed_told, letter_told}
use Rattle.pec_letter_parts.proofs.letters.a_text_is_one_letter.Goals as goal

pub returns-clause-headed : goal.returns-clause-headed
returns-clause-headed g c = λ sealer text. headed_told (g.S.Sealer.seals sealer) (c.sealing_and_opening.ensures.opens sealer) c.a_text_has_one_reading.ensures.told text

pub returns-clause-letter : goal.returns-clause-letter
returns-clause-letter g c = λ sealer text.
    letter_told (g.S.Sealer.seals sealer) text
    (headed_told (g.S.Sealer.seals sealer) (c.sealing_and_opening.ensures.opens sealer) c.a_text_has_one_reading.ensures.told text) c.a_head_has_one_letter.ensures
