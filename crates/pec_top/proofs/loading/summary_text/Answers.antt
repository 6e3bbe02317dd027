-- The lines are put one behind the other.
use Rattle.std.proofs.Common.{[]}
use Rattle.pec_load_runs.specs.Loading.{summary_rows, summary_text}
use Rattle.pec_top.proofs.loading.summary_text.Goals as goal

pub returns : goal.returns
unfolding summary_text
returns c =
    rw (c.in_ok-page-8.ensures, c.in_ok-page-7.ensures, c.in_ok-page-6.ensures, c.in_ok-page-5.ensures, c.in_ok-page-4.ensures, c.in_ok-page-3.ensures, c.in_ok-page-2.ensures, c.in_ok-page.ensures, c.new.ensures)
    (c.lines_are_put_in_their_order.ensures [] (summary_rows c.args.count c.args.summary c.args.alfa c.args.beta))
