use Rattle.pec_runs.proofs.BeginningLemmas.{none_interrupted}
use Rattle.pec_runs.proofs.RunLemmas.{sound_beginning}
use Rattle.pec_runs.proofs.runs.a_run_begins_sound.Goals as goal

pub returns : goal.returns
returns g c = λ trade is_trade screens depot form opening is at_hand fit. (
  sound_beginning trade _ screens form opening (c.licences_stand.ensures.conditions trade) (c.soundness.ensures.start trade) is
      at_hand fit,
  none_interrupted trade screens opening.journals,
)
