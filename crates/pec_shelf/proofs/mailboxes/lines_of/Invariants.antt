use Rattle.std.proofs.Common.{◌≡◌, take}
use Rattle.std.specs.List.{flat_map}
use Rattle.pec_shelf.specs.Moves.{items_of}
use Rattle.pec_shelf.proofs.MoveLemmas.{line_in}
use Rattle.pec_shelf.proofs.mailboxes.lines_of.Given as goal

abbrev pub invariant-loop-rank : goal.invariant-loop-rank
invariant-loop-rank l = l.lines.items ≡ flat_map (line_in (items_of l.account l.boxes.items)) (take l.rank-index l.ranks)
