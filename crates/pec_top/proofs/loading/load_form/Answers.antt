-- The run that is played, and what is told of it.
use Rattle.std.proofs.Common.{map, ◌∷◌, [], codes, Some, refl, arith}
use Rattle.std.proofs.lemmas.Result.{err_from_is_err_and}
use Rattle.pec_outside.specs.Flow.{as_u64}
use Rattle.pec_load.specs.Heard.{load_input}
use Rattle.pec_load_runs.specs.Loading.{counts_with, load_asked}
use Rattle.pec_runs.specs.Ran.{Counts, NoneFell}
use Rattle.pec_top.specs.Blaming.{BlamesDevices}
use Rattle.pec_top.specs.Reporting.{RanReporting}
use Rattle.pec_top.specs.Shown.{result_shown}
use Rattle.pec_top.specs.declared.reporting.Report.TheVariants as reports
use Rattle.pec_top.proofs.LoadingLemmas.{loaded_so, unmade}
use Rattle.pec_top.proofs.RunningLemmas.{ran_whole}
use Rattle.pec_top.proofs.ThroughLemmas.{counted_through, whole_through}
use Rattle.pec_top.proofs.TopLemmas.{blames_result}
use Rattle.pec_top.proofs.loading.load_form.Goals as goal

pub returns-in_err-input-clause-loaded : goal.returns-in_err-input-clause-loaded
returns-in_err-input-clause-loaded g c = λ input.
    let tells = g.P.Depot.tells × g.P.D.Disk.tells in
    let home = g.P.Depot.home c.args.depot.now in
    let counts : Counts = record {
      source = input;
      sink = g.W.Counted.faults c.args.out.now;
      depot = g.P.Counted.faults c.args.depot.now;
      disks = g.P.Depot.last c.args.depot.now;
    } in
    let p = err_from_is_err_and c.from_residual.result c.from_residual.ensures.1 in
    rw (p.1, p.2) (unmade c.args.count (map g.J.Judge.patterns c.args.screens.items) (g.W.Stream.held c.args.out.now)
    tells g.P.D.Disk.sight g.P.D.Counted.faults home counts)

pub returns-clause-loaded : goal.returns-clause-loaded
unfolding counted_through whole_through ran_whole
returns-clause-loaded g c = λ input.
    let count = c.args.count in
    let screens = map g.J.Judge.patterns c.args.screens.items in
    let tells = g.P.Depot.tells × g.P.D.Disk.tells in
    let sight = g.P.D.Disk.sight in
    let faults = g.P.D.Counted.faults in
    let run = c.run_form-run.result in
    let result = c.end_load.result in
    let lines = c.run_form-run.new.out.bytes in
    let left = c.run_form-run.new.depot in
    let old_home = g.P.Depot.home c.args.depot.now in
    let new_home = g.P.Depot.home left in
    let old : Counts = record {
      source = input;
      sink = g.W.Counted.faults c.args.out.now;
      depot = g.P.Counted.faults c.args.depot.now;
      disks = g.P.Depot.last c.args.depot.now;
    } in
    let new : Counts = record {
      source = input;
      sink = g.W.Counted.faults c.end_load.new.out;
      depot = g.P.Counted.faults left;
      disks = g.P.Depot.last left;
    } in
    let source = as_u64 c.run_form-run.new.input.calls.faults in
    let sink = as_u64 c.run_form-run.new.out.calls.faults in
    let of = c.run_form-run.ensures in
    let ends = c.end_load.ensures in
    let so : RanReporting tells sight faults (load_asked screens) (result_shown run) (Some (load_input count)) (Some []) (Some lines)
    old_home new_home old.disks new.disks reports.Asked c.run_form-run.new.report =
    rw (c.new-source.ensures, c.new-lines.ensures, c.in_ok-input.ensures, c.new-spares.ensures.items) at of.ran (codes "run" ∷ []) refl in
    let devices : BlamesDevices run 0 source 0 sink = rw (c.new-source.ensures, c.new-lines.ensures) at of.blame in
    let fell : NoneFell old new = record {
      source = omega arith;
      sink = ends.later;
      depot = of.disks.1;
      disks = of.disks.2;
    } in
    let blamed : BlamesDevices result old.source new.source old.sink new.sink =
    (λ failed. absurd (ends.read_fault failed), (ends.write_fault, (fell.source, fell.sink))) in
    let ran = (counted_through run (load_asked screens) (Some (load_input count)) (Some []) (Some lines) tells sight faults old_home
    new_home (counts_with old 0 0) (counts_with new source sink) devices of.disks.0 of.disks.1 of.disks.2 so.ran).ran in
    loaded_so count screens run result lines (g.W.Stream.held c.args.out.now) (g.W.Stream.held c.end_load.new.out) tells
    sight faults old_home new_home old new source sink c.run_form-run.new.report devices of.disks.0 of.disks.1 of.disks.2 so
    (c.a_load_is_played_as_a_run.ensures.stays screens count (result_shown run) (Some []) (Some lines) c.args.depot.now left
    (counts_with old 0 0) (counts_with new source sink) c.requires ran)
    (rw c.bytes.ensures at ends.told)
    (blames_result result old new blamed (λ failed. of.disks.0 (ends.started failed))) fell
