-- The input says a directory; or the run ends with it.
use Rattle.std.proofs.Common.{◌∙◌, [], sym, Err}
use Rattle.pec_runs.specs.Openings.{Resume}
use Rattle.pec_top.specs.Shown.{range_shown, result_shown, stop_shown}
use Rattle.pec_top.proofs.EndLemmas.{halted_told, last_told}
use Rattle.pec_top.proofs.ExtractEndLemmas.{log_over, log_stopped, never_changed}
use Rattle.pec_top.proofs.FlowLemmas.{followed_by-nil}
use Rattle.pec_top.proofs.HadFromLemmas.{had_none}
use Rattle.pec_top.proofs.RunningLemmas.{untouched}
use Rattle.pec_top.proofs.extracting.extract_form.Goals as goal

pub returns-in-Ok-Opens-clause-ran : goal.returns-in-Ok-Opens-clause-ran
returns-in-Ok-Opens-clause-ran g c =
    c.extract_opened.ensures.ran (g.S.Stream.left c.args.input.now) (g.S.Stream.left c.whole.new.source)
    (rw c.in-Ok-Opens.field-0-is at c.in-Ok-Opens.ensures.read)

pub returns-in-Ok-Ends-clause-ran : goal.returns-in-Ok-Ends-clause-ran
returns-in-Ok-Ends-clause-ran g c =
    let tells = g.P.Depot.tells × g.P.D.Disk.tells in
    let sight = g.P.D.Disk.sight in
    let home = g.P.Depot.home c.args.depot.now in
    let last = g.P.Depot.last c.args.depot.now in
    let before = g.W.Stream.held c.args.out.now in
    let after = g.W.Stream.held c.write_last.new.out in
    let over = rw c.in-Ok-Ends.field-0-is at c.in-Ok-Ends.ensures.read in
    rw c.status_of.ensures.shown (log_over tells sight g.P.D.Counted.faults (range_shown (c.args.from, c.args.upto))
    (result_shown c.write_last.result) (g.S.Stream.left c.args.input.now) before after home home last last
    (never_changed c.write_last.result) (untouched tells sight home)
    (λ trade. had_none tells sight Resume trade home) over.bytes over.input over.end over.stage
    (last_told over.end c.in-Ok-Ends.end over.shown before after _ (c.deref.ensures.value ∙ over.text_is [])
    c.write_last.result c.write_last.ensures.ok c.write_last.ensures.err c.write_last.ensures.stop))

pub returns-in-Err-clause-ran : goal.returns-in-Err-clause-ran
returns-in-Err-clause-ran g c =
    let tells = g.P.Depot.tells × g.P.D.Disk.tells in
    let sight = g.P.D.Disk.sight in
    let home = g.P.Depot.home c.args.depot.now in
    let last = g.P.Depot.last c.args.depot.now in
    let before = g.W.Stream.held c.args.out.now in
    let stop = c.in-Err.stop in
    rw c.status_of-in-Err.ensures.shown (log_stopped tells sight g.P.D.Counted.faults (range_shown (c.args.from, c.args.upto))
    (stop_shown stop) (g.S.Stream.left c.args.input.now) before before home home last last (never_changed (Err stop))
    (untouched tells sight home) (λ trade. had_none tells sight Resume trade home)
    (halted_told stop c.in-Err.ensures.stops before before [] (sym (followed_by-nil before))))
