use Rattle.std.proofs.Common.{◌≡◌, drop}
use Rattle.std.specs.List.{find, flat_map}
use Rattle.pec_shelf.specs.Undecided.{is_open, pairs_at}
use Rattle.pec_shelf.proofs.undecided.first_undecided.Given as goal

abbrev pub invariant-loop-place : goal.invariant-loop-place
invariant-loop-place l = find (is_open l.decided.rows) (flat_map (pairs_at l.taken.rows) l.places)
    ≡ find (is_open l.decided.rows) (flat_map (pairs_at l.taken.rows) (drop l.place-index l.places))
