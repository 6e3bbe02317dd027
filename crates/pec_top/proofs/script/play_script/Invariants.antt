-- The loop read so far; the network is that of the same directory, and no count fell.
use Rattle.std.proofs.Common.{ℕ, ◌+◌, ◌-◌, ◌≤◌, map}
use Rattle.pec_outside.specs.Depots.{Alike}
use Rattle.pec_outside.specs.Flow.{behind}
use Rattle.pec_directory.specs.Directory.{providers_of}
use Rattle.pec_runs.specs.Reading.{Reads}
use Rattle.pec_runs.specs.ScriptLines.{most_lines}
use Rattle.pec_serving.specs.OfNetworks.{AllStand, Keeps, point_of, world_of}
use Rattle.pec_top.specs.Scripts.{at_first}
use Rattle.pec_top.proofs.script.play_script.Given as goal

abbrev pub invariant-lines : goal.invariant-lines
invariant-lines g l =
    let disk = g.D.Disk in
    let depot = g.P.Depot in
    let sink = g.W.Stream in
    let faults = g.D.Counted.faults in
    record {
      reads : (depot.tells × disk.tells → AllStand disk.sight l.fn.network.providers) → (elsewhere : ℕ → ℕ)
          → Reads (world_of g.H.Sealer.seals l.fn.network)
          (providers_of l.fn.network.kept) (depot.tells × disk.tells) disk.sight faults
          (at_first (point_of faults elsewhere (map g.J.Judge.spare_patterns l.fn.spares.items) l.fn.network (sink.held l.fn.out) (g.W.Counted.faults l.fn.out))
          (behind l.fn.buffer (g.S.Stream.left l.fn.source))) (record {
            point = point_of faults elsewhere (map g.J.Judge.spare_patterns l.spares.items) l.network (sink.held l.out) (g.W.Counted.faults l.out);
            number = l.number;
            unread = behind l.buffer (g.S.Stream.left l.source);
          });
      number : l.number ≤ most_lines + 1;
      keeps : Keeps disk.sight faults disk.tells l.fn.network l.network;
      home : depot.tells → Alike (depot.home l.fn.depot) (depot.home l.depot);
      last : Alike (depot.last l.fn.depot) (depot.last l.depot);
      depot_later : g.P.Counted.faults l.fn.depot ≤ g.P.Counted.faults l.depot;
      source_later : g.S.Counted.faults l.fn.source ≤ g.S.Counted.faults l.source;
      sink_later : g.W.Counted.faults l.fn.out ≤ g.W.Counted.faults l.out;
    }

abbrev pub decreases-lines : goal.decreases-lines
decreases-lines g l = most_lines + 1 - l.number
