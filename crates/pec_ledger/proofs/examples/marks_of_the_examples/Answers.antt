-- The marks are computed.
use Rattle.std.proofs.Common.{refl}
use Rattle.pec_ledger.specs.Steps.{half, step}
use Rattle.pec_types.specs.LimitsReading.{due_of}
use Rattle.pec_ledger.proofs.examples.marks_of_the_examples.Goals as goal

pub returns : goal.returns
unfolding half step due_of
returns c = record {
  before_12_hours = refl;
  at_12_hours = refl;
  before_22_hours = refl;
  at_22_hours = refl;
  after_the_notice = refl;
  at_24_hours = refl;
  past_24_hours = refl;
}
