use Rattle.std.proofs.Common.{[], ◌∷◌, ◌∙◌, ap}
use Rattle.pec_script.specs.Pages.{line_after}
use Rattle.pec_input.specs.Faults.{refused_directory_text, refused_directory_words}
use Rattle.pec_input.proofs.faults.refused_directory_text.Goals as goal

pub returns : goal.returns
unfolding refused_directory_text
returns c =
    let words = refused_directory_words c.args.why in
    c.in_ok-page.ensures
    ∙ (ap (λ t. line_after t words) c.new.ensures ∙ c.lines_are_put_in_their_order.ensures [] (words ∷ []))
