-- The run was done, or found a disk that isn't empty; it ends in no other way.
use Rattle.std.proofs.Common.{ap, refl, sym}
use Rattle.pec_runs.specs.Statuses as statuses
use Rattle.pec_top.specs.Shown.{end_shown}
use Rattle.pec_top.specs.declared.ending.End.TheVariants as lasts
use Rattle.pec_top.proofs.FlowLemmas.{followed_by-nil}
use Rattle.pec_top.proofs.LoadingLemmas.{load_written}
use Rattle.pec_top.proofs.loading.end_ended.Goals as goal

pub returns-in-Done-clause-told : goal.returns-in-Done-clause-told
returns-in-Done-clause-told g c = λ trade sites told.
    rw c.in-Done.is (c.write_summary.ensures.told trade sites (told (ap end_shown c.in-Done.is)))

pub returns-in-NotEmpty-clause-told : goal.returns-in-NotEmpty-clause-told
returns-in-NotEmpty-clause-told g c = λ trade sites told.
    rw c.in-NotEmpty.is (load_written statuses.NotEmpty c.args.lines.now c.args.lines.now refl lasts.NotEmpty
    (g.W.Stream.held c.args.out.now) (g.W.Stream.held c.write_last.new.out) c.write_last.result c.write_last.ensures.ok
    c.write_last.ensures.err c.write_last.ensures.stop (λ held. (refl, held)))

pub returns-in_default-clause-told : goal.returns-in_default-clause-told
returns-in_default-clause-told g c = λ trade sites told. sym (followed_by-nil (g.W.Stream.held c.args.out.now))
