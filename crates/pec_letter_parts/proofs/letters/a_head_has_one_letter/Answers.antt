-- The law of what is behind a head, from the laws of parts and certification texts.
use Rattle.pec_letter_parts.proofs.LetterLemmas.{inside_told}
use Rattle.pec_letter_parts.proofs.letters.a_head_has_one_letter.Goals as goal

pub returns : goal.returns
returns c = inside_told c.a_body_has_one_reading.ensures.told (λ text cert. (c.a_text_has_one_answer.ensures text).value cert)
