use Rattle.std.proofs.Common.{◌∷◌, [], ap, ◌∙◌}
use Rattle.pec_script.proofs.RowLemmas.{text_is}
use Rattle.pec_script.specs.Pages.{line_after}
use Rattle.pec_script.specs.Texts.{answer_text, answer_words}
use Rattle.pec_script.proofs.answers.answer_text.Goals as goal

pub returns : goal.returns
unfolding answer_text
returns c =
    let words = answer_words c.args.answer.now in
    c.in_ok-page.ensures ∙ (ap (λ t. line_after t words) c.new.ensures ∙ text_is (words ∷ []))
