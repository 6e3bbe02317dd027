use Rattle.pec_ledger.specs.Steps.{step}
use Rattle.pec_shelf.proofs.laws.what_is_kept_goes_on.Goals as goal

pub returns-clause-half : goal.returns-clause-half
unfolding step
returns-clause-half c = λ trade old new entry place goes. goes.half
