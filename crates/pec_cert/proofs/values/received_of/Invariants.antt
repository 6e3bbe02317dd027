use Rattle.std.proofs.Common.{◌≡◌, take}
use Rattle.pec_cert.specs.Certificate.{received_from, before_received}
use Rattle.pec_cert.specs.Checking.{AllGood}
use Rattle.pec_cert.proofs.values.received_of.Given as goal

abbrev pub invariant-loop-i : goal.invariant-loop-i
invariant-loop-i l = record { made : l.all.items ≡ take l.i l.lines.received; good : AllGood (received_from (before_received l.lines) (take l.i l.lines.received)) }
