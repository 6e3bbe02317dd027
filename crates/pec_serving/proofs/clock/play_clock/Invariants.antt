use Rattle.std.proofs.Common.{◌≡◌, ◌≤◌, ℕ, [], length, map}
use Rattle.pec_outside.specs.Depots.{Alike}
use Rattle.pec_directory.specs.Directory.{providers_of}
use Rattle.pec_playing.specs.Doing.{Keeps}
use Rattle.pec_playing.specs.OfNetworks.{AllStand, world_of}
use Rattle.pec_playing.specs.Points.{point_of}
use Rattle.pec_service.specs.OfRuns.{Climbs, Plays}
use Rattle.pec_service.specs.Calls.{clock_from}
use Rattle.pec_serving.proofs.ClockLemmas.{due_from}
use Rattle.pec_serving.proofs.clock.play_clock.Given as goal

-- The clock calls so far were played, and those of the other providers and the round are due.
abbrev pub invariant-loop-provider : goal.invariant-loop-provider
invariant-loop-provider g l =
    let depot = g.P.Depot in
    let sink = g.W.Stream in
    let faults = g.D.Counted.faults in
    record {
      climbs : (depot.tells × g.D.Disk.tells → AllStand g.D.Disk.sight l.fn.network.providers) → (elsewhere : ℕ → ℕ)
          → Climbs (world_of g.S.Sealer.seals l.fn.network) (providers_of l.fn.network.kept)
          (depot.tells × g.D.Disk.tells) g.D.Disk.sight faults (map Plays (clock_from (length l.fn.network.kept) 0 l.moment))
          (due_from (length l.fn.network.kept) l.moment l.provider)
          (point_of faults elsewhere [] l.fn.network (sink.held l.fn.out) (g.W.Counted.faults l.fn.out))
          (point_of faults elsewhere [] l.network (sink.held l.out) (g.W.Counted.faults l.out));
      keeps : Keeps g.D.Disk.sight faults g.D.Disk.tells l.fn.network l.network;
      home : depot.tells → Alike (depot.home l.fn.depot) (depot.home l.depot);
      last : Alike (depot.last l.fn.depot) (depot.last l.depot);
      depot_later : g.P.Counted.faults l.fn.depot ≤ g.P.Counted.faults l.depot;
      later : g.W.Counted.faults l.fn.out ≤ g.W.Counted.faults l.out;
      spares : l.none.items ≡ [];
      within : l.provider ≤ length l.fn.network.kept;
    }
