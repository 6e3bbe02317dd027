-- Acts that are a script: from the lemma.
use Rattle.pec_runs.proofs.PlayedLemmas.{script_goes}
use Rattle.pec_runs.proofs.steps.acts_are_a_script.Goals as goal

pub returns : goal.returns
returns g c = λ trade providers script here there stop goes.
    script_goes trade providers _ g.P.D.Disk.sight g.P.D.Counted.faults script here there stop goes
