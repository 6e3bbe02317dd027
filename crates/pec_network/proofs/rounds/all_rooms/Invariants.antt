use Rattle.pec_network.specs.Rounds.{AreRooms}
use Rattle.pec_network.proofs.rounds.all_rooms.Given as goal

abbrev pub invariant-loop-from : goal.invariant-loop-from
invariant-loop-from l = AreRooms l.from l.arrivals l.all.items
