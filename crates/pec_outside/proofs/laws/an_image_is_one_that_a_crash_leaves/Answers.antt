use Rattle.pec_outside.proofs.StepLemmas.{crash_durable}
use Rattle.pec_outside.proofs.ImageLemmas.{front_left, front_count}
use Rattle.pec_outside.specs.MemoryDisk.{front_of}
use Rattle.pec_outside.proofs.laws.an_image_is_one_that_a_crash_leaves.Goals as goal

pub returns-clause-left : goal.returns-clause-left
returns-clause-left c = front_left

pub returns-clause-durable : goal.returns-clause-durable
returns-clause-durable c log calls kept = crash_durable (front_of calls log) kept

pub returns-clause-count : goal.returns-clause-count
returns-clause-count c = front_count
