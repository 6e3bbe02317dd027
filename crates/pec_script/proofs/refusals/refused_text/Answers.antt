use Rattle.std.proofs.Common.{ap, ◌∙◌}
use Rattle.pec_script.proofs.RowLemmas.{text_is}
use Rattle.pec_script.specs.Pages.{text_after}
use Rattle.pec_script.specs.Texts.{refused_rows, refused_text}
use Rattle.pec_script.proofs.refusals.refused_text.Goals as goal

pub returns : goal.returns
unfolding refused_text
returns c =
    let rows = refused_rows c.args.line c.args.fault in
    c.in_ok-page.ensures ∙ (ap (λ t. text_after t rows) c.new.ensures ∙ text_is rows)
