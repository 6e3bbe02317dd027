-- The input says a directory; or the run ends with it.
use Rattle.std.proofs.Common.{map, ◌∙◌, [], refl, sym}
use Rattle.std.proofs.lemmas.Result.{err_from_is_err_and}
use Rattle.pec_runs.specs.Openings.{Resume}
use Rattle.pec_service.specs.Runs.{Asked, Outside}
use Rattle.pec_top.specs.Shown.{result_shown, stop_shown}
use Rattle.pec_top.proofs.EndLemmas.{halted_told, last_told}
use Rattle.pec_top.proofs.FlowLemmas.{followed_by-nil}
use Rattle.pec_top.proofs.HadFromLemmas.{had_none}
use Rattle.pec_top.proofs.ServedLemmas.{halted_through, over_through}
use Rattle.pec_top.proofs.RunningLemmas.{untouched}
use Rattle.pec_top.proofs.hosting.serve_form.Goals as goal

pub returns-in_err-directory-clause-served : goal.returns-in_err-directory-clause-served
returns-in_err-directory-clause-served g c =
    let asked : Asked = record { wanted = c.args.wanted; screens = map g.J.Judge.patterns c.args.screens.items } in
    let tells = g.P.Depot.tells × g.P.D.Disk.tells in
    let home = g.P.Depot.home c.args.depot.now in
    let last = g.P.Depot.last c.args.depot.now in
    let before = g.W.Stream.held c.args.out.now in
    let here : Outside = record {
      moments = g.T.Ticks.coming c.args.ticks.now;
      requests = g.R.Door.requests c.args.door.now;
      replies = g.R.Door.replies c.args.door.now;
    } in
    let stop = c.in_err-directory.field-0.0 in
    let p = err_from_is_err_and c.from_residual.result c.from_residual.ensures.1 in
    rw (p.1, p.2) (halted_through asked (stop_shown stop) (g.S.Stream.left c.args.input.now) before before tells
    g.P.D.Disk.sight g.P.D.Counted.faults home home here here last last (untouched tells g.P.D.Disk.sight home) refl
    (λ trade. had_none tells g.P.D.Disk.sight Resume trade home)
    (halted_told stop c.in_err-directory.ensures.stops before before [] (sym (followed_by-nil before))))

pub returns-in-Opens-clause-served : goal.returns-in-Opens-clause-served
returns-in-Opens-clause-served g c =
    c.serve_opened.ensures.served (g.S.Stream.left c.args.input.now) (g.S.Stream.left c.whole.new.source)
    (rw c.in-Opens.is at c.in_ok-directory.ensures.read)

pub returns-in-Ends-clause-served : goal.returns-in-Ends-clause-served
returns-in-Ends-clause-served g c =
    let asked : Asked = record { wanted = c.args.wanted; screens = map g.J.Judge.patterns c.args.screens.items } in
    let tells = g.P.Depot.tells × g.P.D.Disk.tells in
    let home = g.P.Depot.home c.args.depot.now in
    let last = g.P.Depot.last c.args.depot.now in
    let before = g.W.Stream.held c.args.out.now in
    let after = g.W.Stream.held c.write_last.new.out in
    let here : Outside = record {
      moments = g.T.Ticks.coming c.args.ticks.now;
      requests = g.R.Door.requests c.args.door.now;
      replies = g.R.Door.replies c.args.door.now;
    } in
    let over = rw c.in-Ends.is at c.in_ok-directory.ensures.read in
    over_through asked (result_shown c.write_last.result) (g.S.Stream.left c.args.input.now) before after tells
    g.P.D.Disk.sight g.P.D.Counted.faults home home here here last last (untouched tells g.P.D.Disk.sight home) refl
    (λ trade. had_none tells g.P.D.Disk.sight Resume trade home) over.bytes over.end over.stage over.input
    (last_told over.end c.in-Ends.end over.shown before after _ (c.deref.ensures.value ∙ over.text_is [])
    c.write_last.result c.write_last.ensures.ok c.write_last.ensures.err c.write_last.ensures.stop)
