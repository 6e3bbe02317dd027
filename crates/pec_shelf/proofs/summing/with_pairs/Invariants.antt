use Rattle.std.proofs.Common.{◌≡◌, drop}
use Rattle.pec_shelf.specs.SummariesReading.{with_pairs}
use Rattle.pec_shelf.proofs.summing.with_pairs.Given as goal

abbrev pub invariant-loop-recipient : goal.invariant-loop-recipient
invariant-loop-recipient l =
    with_pairs l.shelf.half l.id l.summary (drop l.recipient-index l.recipients) ≡ with_pairs l.shelf.half l.id l.fn.summary l.recipients
