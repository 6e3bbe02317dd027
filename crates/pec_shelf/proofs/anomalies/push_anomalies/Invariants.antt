use Rattle.std.proofs.Common.{◌≡◌, ◌++◌, map, take}
use Rattle.pec_ledger.specs.Steps.{anomaly_by}
use Rattle.pec_shelf.proofs.anomalies.push_anomalies.Given as goal

abbrev pub invariant-loop-account : goal.invariant-loop-account
invariant-loop-account l = l.ready ≡ record l.fn.ready { adds = record l.fn.ready.adds { items = l.fn.ready.adds.items ++ map (anomaly_by l.shelf.half l.moment) (take l.account-index l.accounts) } }
