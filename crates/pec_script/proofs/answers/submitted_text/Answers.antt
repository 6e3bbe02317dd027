use Rattle.std.proofs.Common.{◌∷◌, [], ap, ◌∙◌}
use Rattle.pec_directory.specs.Directory.{providers_of}
use Rattle.pec_script.proofs.RowLemmas.{text_is}
use Rattle.pec_script.specs.Pages.{line_after}
use Rattle.pec_script.specs.Texts.{submitted_text, submitted_words}
use Rattle.pec_script.proofs.answers.submitted_text.Goals as goal

pub returns : goal.returns
unfolding submitted_text
returns c =
    let words = submitted_words (providers_of c.args.directory.now) c.args.submitted.now in
    c.in_ok-page.ensures ∙ (ap (λ t. line_after t words) c.new.ensures ∙ text_is (words ∷ []))
