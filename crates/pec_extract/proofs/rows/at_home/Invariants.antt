use Rattle.std.proofs.Common.{◌≡◌, take}
use Rattle.pec_ledger.specs.Lookups.{at_home}
use Rattle.pec_ledger.specs.OfDirectory.{IsOf}
use Rattle.pec_ledger.specs.Trade.{Trade}
use Rattle.pec_extract.proofs.rows.at_home.Given as goal

abbrev pub invariant-loop-address : goal.invariant-loop-address
invariant-loop-address l =
    (trade : Trade) → IsOf l.directory trade → l.home.items ≡ at_home trade l.provider (take l.address-index l.addresses)
