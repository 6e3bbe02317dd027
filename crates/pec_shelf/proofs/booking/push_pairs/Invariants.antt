use Rattle.std.proofs.Common.{◌≡◌, ◌++◌, map, take}
use Rattle.pec_shelf.specs.Lines.{line_at}
use Rattle.pec_shelf.proofs.booking.push_pairs.Given as goal

abbrev pub invariant-loop-recipient : goal.invariant-loop-recipient
invariant-loop-recipient l = l.lines.items ≡ l.fn.lines.items ++ map (line_at l.shelf.half l.id l.accepted) (take l.recipient-index l.recipients)
