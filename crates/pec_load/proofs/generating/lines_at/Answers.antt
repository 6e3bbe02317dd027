-- The lines are put one behind the other.
use Rattle.std.proofs.Common.{[], cond, ap, ◌∙◌}
use Rattle.pec_script.specs.Pages.{text_after}
use Rattle.pec_load.specs.Generated.{end_moment, end_rows, ends_batch, rows_at}
use Rattle.pec_load.proofs.generating.lines_at.Goals as goal

pub returns : goal.returns
returns c =
    let rest = cond (ends_batch c.args.count c.args.number) (end_rows (end_moment c.args.count c.args.number)) [] in
    c.in_ok-page-2.ensures
    ∙ (ap (λ t. text_after t rest) c.in_ok-page.ensures
    ∙ c.lines_are_put_in_their_order.ensures [] (rows_at c.args.count c.args.number))
