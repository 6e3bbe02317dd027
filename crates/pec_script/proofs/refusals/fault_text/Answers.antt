use Rattle.std.proofs.Common.{[], ap, ◌∙◌}
use Rattle.pec_script.proofs.RowLemmas.{text_is}
use Rattle.pec_script.specs.Pages.{text_after}
use Rattle.pec_script.specs.Texts.{fault_text, refusal_rows}
use Rattle.pec_script.proofs.refusals.fault_text.Goals as goal

pub returns : goal.returns
unfolding fault_text
returns c =
    let rows = refusal_rows [] c.args.fault.now in
    c.in_ok-page.ensures ∙ (ap (λ t. text_after t rows) c.new.ensures ∙ text_is rows)
