use Rattle.pec_provider.specs.OfTrades.{world_at}
use Rattle.pec_network.specs.Turning.{room_in}
use Rattle.pec_network.proofs.PutLemmas.{PutSoFar}
use Rattle.pec_network.proofs.putting.puts.Given as goal

abbrev pub invariant-loop-to : goal.invariant-loop-to
invariant-loop-to g l =
    PutSoFar g.D.Disk.tells g.D.Disk.sight g.D.Counted.faults l.house.directory.now (g.S.Sealer.seals l.house.sealer.now)
    (world_at l.house) l.house.me (room_in l.rooms) l.fn.provider l.to l.provider l.out.items
