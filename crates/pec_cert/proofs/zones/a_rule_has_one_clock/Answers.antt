use Rattle.pec_cert.proofs.ZoneLemmas.{one_clock, stamp_there}
use Rattle.pec_cert.proofs.zones.a_rule_has_one_clock.Goals as goal

pub returns : goal.returns
returns c = record { one = one_clock; stamp = stamp_there }
