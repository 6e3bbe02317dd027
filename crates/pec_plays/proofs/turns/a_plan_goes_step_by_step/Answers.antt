-- Plans step by step: from the lemmas.
use Rattle.std.proofs.Common.{refl}
use Rattle.pec_plays.proofs.TurnLemmas.{none_left, pair_first}
use Rattle.pec_plays.proofs.turns.a_plan_goes_step_by_step.Goals as goal

pub returns : goal.returns
returns c = record { frames = λ trade p now looks es frame frames. refl; pairs = pair_first; ends = none_left }
