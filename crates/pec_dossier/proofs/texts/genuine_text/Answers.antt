-- The line of a letter, and the one of its certificate behind it.
use Rattle.std.proofs.Common.{◌∷◌, [], ◌∙◌, ap}
use Rattle.pec_directory.specs.Directory.{providers_of}
use Rattle.pec_script.specs.Pages.{line_after, text_after}
use Rattle.pec_dossier.specs.Texts.{cert_rows, genuine_words}
use Rattle.pec_dossier.proofs.texts.genuine_text.Goals as goal

pub returns : goal.returns
returns c =
    let words = genuine_words (providers_of c.args.directory.now) c.args.number c.args.report.now in
    let rows = cert_rows c.args.report.now.cert in
    c.in_ok-page-2.ensures
    ∙ (ap (λ t. text_after t rows) c.in_ok-page.ensures
    ∙ (ap (λ t. text_after (line_after t words) rows) c.new.ensures
    ∙ c.lines_are_put_in_their_order.ensures [] (words ∷ rows)))
