use Rattle.std.proofs.Common.{◌≡◌, drop, map}
use Rattle.std.specs.List.{find}
use Rattle.pec_ledger.specs.Pairs.{pair_of}
use Rattle.pec_shelf.specs.Undecided.{is_open}
use Rattle.pec_shelf.proofs.undecided.undecided_of.Given as goal

abbrev pub invariant-loop-recipient : goal.invariant-loop-recipient
invariant-loop-recipient l = find (is_open l.decided.rows) (map (pair_of l.id) l.recipients)
    ≡ find (is_open l.decided.rows) (map (pair_of l.id) (drop l.recipient-index l.recipients))
