-- The recipients before the next one are known.
use Rattle.std.proofs.Common.{take}
use Rattle.pec_points.specs.AdmissionReading.{has_recipient}
use Rattle.pec_points.specs.Known.{AreKnown}
use Rattle.pec_points.proofs.paths.known_recipients.Given as goal

abbrev pub invariant-loop-recipient : goal.invariant-loop-recipient
invariant-loop-recipient l = AreKnown l.known (has_recipient (take l.recipient-index l.recipients))
