use Rattle.std.proofs.Common.{◌≡◌, take, map}
use Rattle.pec_cert.specs.Certificate.{addressee, addressees_from, before_recipients}
use Rattle.pec_cert.specs.Checking.{AllGood}
use Rattle.pec_cert.proofs.values.recipients_of.Given as goal

abbrev pub invariant-loop-i : goal.invariant-loop-i
invariant-loop-i l = record { made : map addressee l.all.items ≡ take l.i l.lines.recipients; good : AllGood (addressees_from (before_recipients l.lines) (take l.i l.lines.recipients)) }
