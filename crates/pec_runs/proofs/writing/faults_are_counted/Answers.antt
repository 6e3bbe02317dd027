use Rattle.pec_runs.proofs.ClimbLemmas.{rose_in_all}
use Rattle.pec_runs.proofs.writing.faults_are_counted.Goals as goal

pub returns : goal.returns
returns c = λ trade lucks sites commands from upto rose provider. rose_in_all trade lucks sites commands from upto rose provider
