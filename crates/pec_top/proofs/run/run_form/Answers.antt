-- The input may end the run.
use Rattle.std.proofs.Common.{◌∙◌, [], false, map, sym}
use Rattle.std.proofs.lemmas.Result.{err_from_is_err_and}
use Rattle.pec_runs.specs.Openings.{Resume}
use Rattle.pec_runs.specs.Happened.{Asked}
use Rattle.pec_top.specs.Shown.{form_shown, result_shown, stop_shown}
use Rattle.pec_top.proofs.EndLemmas.{halted_told, last_told}
use Rattle.pec_top.proofs.FlowLemmas.{followed_by-nil}
use Rattle.pec_top.proofs.HadFromLemmas.{had_none}
use Rattle.pec_top.proofs.InputLemmas.{all_read_behind, behind_nothing}
use Rattle.pec_top.proofs.ReportLemmas.{unreported}
use Rattle.pec_top.proofs.RunningLemmas.{no_hands, untouched}
use Rattle.pec_top.proofs.ThroughLemmas.{halted_through, over_through}
use Rattle.pec_top.proofs.run.run_form.Goals as goal

pub returns-in_err-directory-clause-ran : goal.returns-in_err-directory-clause-ran
returns-in_err-directory-clause-ran g c = λ words is.
    let asked : Asked = record {
      words = words;
      screens = map g.J.Judge.patterns c.args.screens.items;
      spares = map g.J.Judge.spare_patterns c.args.spares.items;
    } in
    let tells = g.P.Depot.tells × g.P.D.Disk.tells in
    let home = g.P.Depot.home c.args.depot.now in
    let last = g.P.Depot.last c.args.depot.now in
    let before = g.W.Stream.held c.args.out.now in
    let stop = c.in_err-directory.field-0.0 in
    let p = err_from_is_err_and c.from_residual.result c.from_residual.ensures.1 in
    rw (p.1, p.2) (unreported tells g.P.D.Disk.sight g.P.D.Counted.faults asked (stop_shown stop) (g.S.Stream.left c.args.input.now) before before
    home home last last c.args.report.now
    (halted_through asked (g.S.Stream.left c.args.input.now) before before tells g.P.D.Disk.sight g.P.D.Counted.faults home home
    last last (untouched tells g.P.D.Disk.sight home)
    (λ trade. had_none tells g.P.D.Disk.sight Resume trade home) (form_shown c.args.form) (stop_shown stop) is
    (halted_told stop c.in_err-directory.ensures.stops before before [] (sym (followed_by-nil before)))))

pub returns-in-Opens-clause-ran : goal.returns-in-Opens-clause-ran
returns-in-Opens-clause-ran g c = λ words is.
    let unread = g.S.Stream.left c.args.input.now in
    let taken = rw (c.in-Opens.is, c.new-buffer.ensures, behind_nothing unread) at c.in_ok-directory.ensures.read in
    c.run_opened.ensures.ran words unread is taken

pub returns-in-Opens-clause-all_read : goal.returns-in-Opens-clause-all_read
returns-in-Opens-clause-all_read g c =
    all_read_behind c.run_opened.result c.run_opened.new.buffer (g.S.Stream.left c.run_opened.new.source)
    c.run_opened.ensures.all_read

pub returns-in-Ends-clause-ran : goal.returns-in-Ends-clause-ran
returns-in-Ends-clause-ran g c = λ words is.
    let asked : Asked = record {
      words = words;
      screens = map g.J.Judge.patterns c.args.screens.items;
      spares = map g.J.Judge.spare_patterns c.args.spares.items;
    } in
    let tells = g.P.Depot.tells × g.P.D.Disk.tells in
    let home = g.P.Depot.home c.args.depot.now in
    let last = g.P.Depot.last c.args.depot.now in
    let unread = g.S.Stream.left c.args.input.now in
    let before = g.W.Stream.held c.args.out.now in
    let after = g.W.Stream.held c.write_last.new.out in
    let over = rw (c.in-Ends.is, c.new-buffer.ensures, behind_nothing unread) at c.in_ok-directory.ensures.read in
    unreported tells g.P.D.Disk.sight g.P.D.Counted.faults asked (result_shown c.write_last.result) unread before after home home last last
    c.args.report.now
    (over_through asked unread before after tells g.P.D.Disk.sight g.P.D.Counted.faults home home last last (untouched tells g.P.D.Disk.sight home)
    (λ trade. had_none tells g.P.D.Disk.sight Resume trade home) over.parts false over.end (result_shown c.write_last.result) (over.stage asked no_hands (form_shown c.args.form) is)
    over.input (last_told over.end c.in-Ends.end over.shown before after _ (c.deref.ensures.value ∙ over.text_is [])
    c.write_last.result c.write_last.ensures.ok c.write_last.ensures.err
    c.write_last.ensures.stop))
