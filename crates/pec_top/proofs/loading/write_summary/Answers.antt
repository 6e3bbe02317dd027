-- The summary is written where the numbers were told.
use Rattle.std.proofs.Common.{refl, sym}
use Rattle.std.proofs.lemmas.Result.{err_from_is_err_and}
use Rattle.pec_load_runs.specs.Loading.{state_text}
use Rattle.pec_runs.specs.Statuses as statuses
use Rattle.pec_top.specs.declared.ending.End.TheVariants as lasts
use Rattle.pec_top.proofs.FlowLemmas.{followed_by-nil}
use Rattle.pec_top.proofs.LoadingLemmas.{load_written, told_text}
use Rattle.pec_top.proofs.loading.write_summary.Goals as goal

pub returns-in_default-clause-told : goal.returns-in_default-clause-told
returns-in_default-clause-told g c = λ trade sites told. sym (followed_by-nil (g.W.Stream.held c.args.out.now))

pub returns-in_err-text-clause-told : goal.returns-in_err-text-clause-told
returns-in_err-text-clause-told g c = λ trade sites told.
    let p = err_from_is_err_and c.from_residual.result c.from_residual.ensures.1 in
    rw (p.1, p.2) (sym (followed_by-nil (g.W.Stream.held c.args.out.now)))

pub returns-clause-told : goal.returns-clause-told
returns-clause-told g c = λ trade sites told.
    let count = c.args.count in
    let is = rw c.in-Told.is at told in
    load_written statuses.Done (state_text count trade sites) _
    (told_text count c.in-Told.summary c.in-Told.alfa c.in-Told.beta trade sites is _ _
    c.deref.ensures.value c.in_ok-text.ensures)
    lasts.Done (g.W.Stream.held c.args.out.now) (g.W.Stream.held c.write_last.new.out) c.write_last.result
    c.write_last.ensures.ok c.write_last.ensures.err c.write_last.ensures.stop (λ held. (refl, held))
