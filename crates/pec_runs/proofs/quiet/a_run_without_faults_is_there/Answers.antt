-- There are runs: from the lemmas.
use Rattle.pec_runs.proofs.ThereLemmas.{quiet_ran}
use Rattle.pec_runs.proofs.quiet.a_run_without_faults_is_there.Goals as goal

pub returns : goal.returns
returns g c =
    λ asked text setting hands form written journals before depot left counts begun handed is_setting opens leaves.
    quiet_ran c.quiet_runs_are_one.ensures.script_there _ _ _ counts asked text setting hands form written journals
    before begun handed is_setting opens leaves
