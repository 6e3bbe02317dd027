use Rattle.std.proofs.Common.{◌≡◌, take}
use Rattle.std.specs.List.{flat_map}
use Rattle.pec_shelf.specs.Drawers.{own_numbered}
use Rattle.pec_shelf.specs.Lines.{lines_by}
use Rattle.pec_shelf.specs.Sides.{booked_by}
use Rattle.pec_shelf.proofs.booking.book_lines.Given as goal

abbrev pub invariant-loop-rank : goal.invariant-loop-rank
invariant-loop-rank l = l.lines.items ≡ flat_map (lines_by l.me l.shelf.half) (take l.rank (own_numbered booked_by l.account 0 l.messages.rows))
