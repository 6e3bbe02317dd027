use Rattle.std.proofs.Common.{◌≡◌, drop}
use Rattle.std.specs.List.{list_any}
use Rattle.pec_shelf.specs.Lines.{is_at}
use Rattle.pec_shelf.proofs.owing.has_pairs_at.Given as goal

abbrev pub invariant-loop-recipient : goal.invariant-loop-recipient
invariant-loop-recipient l = list_any (is_at l.to) l.recipients ≡ list_any (is_at l.to) (drop l.recipient-index l.recipients)
