use Rattle.std.proofs.Common.{◌≡◌, drop}
use Rattle.std.specs.List.{list_any}
use Rattle.pec_shelf.specs.Lines.{is_heard}
use Rattle.pec_shelf.proofs.owing.hears_of.Given as goal

abbrev pub invariant-loop-recipient : goal.invariant-loop-recipient
invariant-loop-recipient l = list_any (is_heard l.shelf.half l.id l.to) l.recipients ≡ list_any (is_heard l.shelf.half l.id l.to) (drop l.recipient-index l.recipients)
