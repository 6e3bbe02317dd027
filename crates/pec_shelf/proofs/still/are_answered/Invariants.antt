use Rattle.std.proofs.Common.{◌≡◌, drop}
use Rattle.std.specs.List.{list_all}
use Rattle.pec_shelf.specs.Still.{is_answered}
use Rattle.pec_shelf.proofs.still.are_answered.Given as goal

abbrev pub invariant-loop-recipient : goal.invariant-loop-recipient
invariant-loop-recipient l = list_all (is_answered l.charged.rows l.known.rows l.id) l.recipients
    ≡ list_all (is_answered l.charged.rows l.known.rows l.id) (drop l.recipient-index l.recipients)
