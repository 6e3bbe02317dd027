use Rattle.std.proofs.Common.{◌≡◌, drop}
use Rattle.pec_shelf.specs.PairRows.{home_in}
use Rattle.pec_shelf.proofs.pair_rows.home_in.Given as goal

abbrev pub invariant-loop-recipient : goal.invariant-loop-recipient
invariant-loop-recipient l = home_in l.address l.recipients ≡ home_in l.address (drop l.recipient-index l.recipients)
