use Rattle.std.proofs.Common.{◌≡◌, take}
use Rattle.pec_ledger.specs.Due.{answers_to}
use Rattle.pec_trade.specs.Houses.{world_at}
use Rattle.pec_outgoing.proofs.dues.answers_to.Given as goal

abbrev pub invariant-loop-letter : goal.invariant-loop-letter
invariant-loop-letter g l =
    l.answers.items ≡ answers_to (world_at l.desk.house.now) l.to (take l.letter-index l.owed)
