use Rattle.std.proofs.Common.{◌∷◌, [], ◌∙◌, ap}
use Rattle.pec_script.specs.Pages.{line_after}
use Rattle.pec_dossier.specs.Texts.{refused_words}
use Rattle.pec_dossier.proofs.texts.refusal_text.Goals as goal

pub returns-clause-text : goal.returns-clause-text
returns-clause-text c =
    let words = refused_words c.args.number c.args.fault in
    c.in_ok-page.ensures.text
    ∙ (ap (λ t. line_after t words) c.new.ensures ∙ c.lines_are_put_in_their_order.ensures [] (words ∷ []))
