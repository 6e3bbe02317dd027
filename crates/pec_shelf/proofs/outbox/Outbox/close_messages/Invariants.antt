use Rattle.std.proofs.Common.{◌≡◌}
use Rattle.pec_shelf.proofs.outbox.Outbox.close_messages.Given as goal

abbrev pub invariant-loop-number : goal.invariant-loop-number
invariant-loop-number l = l.self ≡ l.fn.self
