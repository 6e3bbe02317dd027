use Rattle.std.proofs.Common.{◌≡◌, ◌≤◌}
use Rattle.pec_directory.specs.Directory.{providers_of}
use Rattle.pec_provider.specs.OfTrades.{world_at}
use Rattle.pec_extract.specs.Logs.{HasGrown}
use Rattle.pec_extract.proofs.LogLemmas.{LogSoFar}
use Rattle.pec_extract.proofs.logging.write_provider.Given as goal

abbrev pub invariant-loop-number : goal.invariant-loop-number
invariant-loop-number g l =
    LogSoFar g.D.Disk.tells g.D.Disk.sight g.D.Counted.faults l.house.directory.now (g.S.Sealer.seals l.house.sealer.now)
    (world_at l.house) (providers_of l.house.directory.now) l.house.me l.from l.upto l.fn.provider (g.W.Stream.held l.fn.out)
    l.number l.submitted l.provider (g.W.Stream.held l.out) l.remembered
    × ((g.W.Counted.faults l.fn.out ≤ g.W.Counted.faults l.out) × ((g.W.Stream.left l.out ≡ g.W.Stream.left l.fn.out)
    × HasGrown (g.W.Stream.held l.fn.out) (g.W.Stream.held l.out)))
