-- The run came to an end, or was stopped.
use Rattle.std.proofs.Common.{◌∙◌, ap}
use Rattle.pec_top.specs.Shown.{result_shown}
use Rattle.pec_top.proofs.LoadingLemmas.{load_stopped}
use Rattle.pec_top.proofs.loading.end_load.Goals as goal

pub returns-in-Ok-clause-told : goal.returns-in-Ok-clause-told
returns-in-Ok-clause-told g c = λ trade sites told.
    rw c.in-Ok.is (c.end_ended.ensures.told trade sites (λ done. told (ap result_shown c.in-Ok.is ∙ done)))

pub returns-in-Err-clause-told : goal.returns-in-Err-clause-told
returns-in-Err-clause-told g c = λ trade sites told.
    rw (c.in-Err.is, c.loaded_stop.ensures)
    (load_stopped c.in-Err.stop c.args.count c.args.lines.now trade sites (g.W.Stream.held c.args.out.now))
