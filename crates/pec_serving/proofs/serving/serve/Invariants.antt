use Rattle.std.proofs.Common.{◌≡◌, ◌≤◌, ℕ, []}
use Rattle.pec_outside.specs.Depots.{Alike}
use Rattle.pec_seal.specs.Hmac.{hmac_seals}
use Rattle.pec_playing.specs.OfNetworks.{AllStand, trade_of}
use Rattle.pec_playing.specs.Doing.{Keeps}
use Rattle.pec_playing.specs.Points.{state_in}
use Rattle.pec_service.specs.OfRuns.{MovesOn}
use Rattle.pec_serving.specs.Serving.{place_of}
use Rattle.pec_serving.proofs.ServiceLemmas.{Going}
use Rattle.pec_serving.proofs.serving.serve.Given as goal

-- So many connections were served whole, and written.
abbrev pub invariant-loop-served : goal.invariant-loop-served
invariant-loop-served g l = record {
  going : (g.P.Depot.tells × g.D.Disk.tells → AllStand g.D.Disk.sight l.fn.network.providers) → (elsewhere : ℕ → ℕ)
      → Going (trade_of l.fn.network.kept (hmac_seals l.fn.network.sealer.names.items l.fn.network.sealer.keys.items))
      (g.P.Depot.tells × g.D.Disk.tells) g.D.Disk.sight g.D.Counted.faults l.fn.network.kept
      (state_in g.D.Counted.faults elsewhere [] l.fn.network) (state_in g.D.Counted.faults elsewhere [] l.network)
      (place_of g.D.Counted.faults elsewhere l.fn.network (g.T.Ticks.coming l.fn.ticks) (g.R.Door.requests l.fn.door)
      (g.R.Door.replies l.fn.door))
      (place_of g.D.Counted.faults elsewhere l.network (g.T.Ticks.coming l.ticks) (g.R.Door.requests l.door)
      (g.R.Door.replies l.door))
      l.served (g.W.Stream.held l.fn.out) (g.W.Stream.held l.out);
  moves : (g.P.Depot.tells × g.D.Disk.tells → AllStand g.D.Disk.sight l.fn.network.providers) → (elsewhere : ℕ → ℕ)
      → MovesOn (trade_of l.fn.network.kept (hmac_seals l.fn.network.sealer.names.items l.fn.network.sealer.keys.items))
      (g.P.Depot.tells × g.D.Disk.tells) g.D.Disk.sight g.D.Counted.faults (state_in g.D.Counted.faults elsewhere [] l.fn.network)
      (state_in g.D.Counted.faults elsewhere [] l.network);
  keeps : Keeps g.D.Disk.sight g.D.Counted.faults g.D.Disk.tells l.fn.network l.network;
  home : g.P.Depot.tells → Alike (g.P.Depot.home l.fn.depot) (g.P.Depot.home l.depot);
  last : Alike (g.P.Depot.last l.fn.depot) (g.P.Depot.last l.depot);
  depot_later : g.P.Counted.faults l.fn.depot ≤ g.P.Counted.faults l.depot;
  out : g.R.Door.out l.door ≡ g.R.Door.out l.fn.door;
  clock_later : g.T.Counted.faults l.fn.ticks ≤ g.T.Counted.faults l.ticks;
  door_later : g.R.Counted.faults l.fn.door ≤ g.R.Counted.faults l.door;
  out_later : g.W.Counted.faults l.fn.out ≤ g.W.Counted.faults l.out;
}
