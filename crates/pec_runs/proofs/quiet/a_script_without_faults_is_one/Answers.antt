-- One way without faults: from the lemmas, and the law of plays.
use Rattle.std.proofs.Common.{sym, ◌∙◌}
use Rattle.pec_plays.specs.Possible.{quiet_lucks}
use Rattle.pec_runs.proofs.TwinLemmas.{twins}
use Rattle.pec_runs.proofs.quiet.a_script_without_faults_is_one.Goals as goal

pub returns : goal.returns
returns c = λ trade lucks sites commands none count meet kept own memory same told.
    let also = twins trade lucks sites commands meet kept own memory same told
    in let there = c.quiet_runs_are_one.ensures.script_there trade sites commands
    in sym also.same
    ∙ c.quiet_runs_are_one.ensures.scripts trade sites commands also.calms (quiet_lucks trade sites commands) none
    (also.count ∙ (count ∙ sym there.1)) also.quiet there.0
