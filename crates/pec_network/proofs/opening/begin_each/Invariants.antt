use Rattle.std.proofs.Common.{◌≡◌, ◌≤◌, length, None}
use Rattle.std.specs.Prelude.{vec_capacity}
use Rattle.pec_outside.specs.Depots.{Alike}
use Rattle.pec_network.specs.Beginning.{AllBegun, NoneFell}
use Rattle.pec_network.specs.Homes.{AllAt}
use Rattle.pec_network.specs.Starting.{AllRun}
use Rattle.pec_network.proofs.opening.begin_each.Given as goal

abbrev pub invariant-loop-me : goal.invariant-loop-me
invariant-loop-me g l =
    let port = g.P.Depot in record {
      count : length l.providers.items ≡ l.me;
      room : vec_capacity l.providers ≡ vec_capacity l.fn.providers;
      runs : AllRun l.directory (g.S.Sealer.seals l.sealer) l.providers.items;
      begun : AllBegun port.tells g.D.Disk.tells g.D.Disk.sight l.directory l.form (port.home l.fn.depot) l.providers.items;
      counts : NoneFell g.D.Counted.faults (port.last l.fn.depot) l.providers.items;
      out : port.tells → AllAt (λ provider. None) (port.home l.fn.depot) (port.home l.depot) l.providers.items;
      last : Alike (port.last l.fn.depot) (port.last l.depot);
      later : g.P.Counted.faults l.fn.depot ≤ g.P.Counted.faults l.depot;
    }
