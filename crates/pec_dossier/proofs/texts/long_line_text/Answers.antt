use Rattle.std.proofs.Common.{[], ◌∷◌, ◌∙◌, ap, sym, codes}
use Rattle.std.specs.Fmt.{decimal}
use Rattle.pec_script.specs.Pages.{line_after}
use Rattle.pec_script.specs.Texts.{Row}
use Rattle.pec_dossier.proofs.LineLemmas.{long_line_so}
use Rattle.pec_dossier.proofs.texts.long_line_text.Goals as goal

pub returns : goal.returns
returns c =
    let words : Row = codes "too-long" ∷ codes "line" ∷ decimal c.args.number ∷ [] in
    c.in_ok-page.ensures
    ∙ (ap (λ t. line_after t words) c.new.ensures
    ∙ (c.lines_are_put_in_their_order.ensures [] (words ∷ []) ∙ sym (long_line_so c.args.number)))
