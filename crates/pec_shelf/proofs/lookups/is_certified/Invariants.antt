use Rattle.std.proofs.Common.{◌≡◌, drop}
use Rattle.std.specs.List.{list_any}
use Rattle.pec_shelf.specs.Lines.{is_for}
use Rattle.pec_shelf.proofs.lookups.is_certified.Given as goal

abbrev pub invariant-loop-recipient : goal.invariant-loop-recipient
invariant-loop-recipient l = list_any (is_for l.address) l.recipients ≡ list_any (is_for l.address) (drop l.recipient-index l.recipients)
