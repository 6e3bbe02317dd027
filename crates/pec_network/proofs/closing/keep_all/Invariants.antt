use Rattle.std.proofs.Common.{◌≡◌, ◌≤◌, List, ◌++◌, length, Some}
use Rattle.pec_provider.specs.Provider.{ProviderState}
use Rattle.pec_network.specs.Homes.{AllFrom}
use Rattle.pec_network.proofs.closing.keep_all.Given as goal

abbrev pub invariant-loop-provider : goal.invariant-loop-provider
invariant-loop-provider g l =
    let port = g.P.Depot in record {
      rest : (more : List (ProviderState g.row.D.Denot)) × (l.fn.providers.items ≡ l.providers.items ++ more);
      kept : port.tells → AllFrom (λ provider. Some provider.chronicle.disk) (port.home l.fn.depot) (port.home l.depot) l.fn.providers.items (length l.providers.items);
      last : AllFrom (λ provider. g.D.Counted.faults provider.chronicle.disk) (port.last l.fn.depot) (port.last l.depot) l.fn.providers.items (length l.providers.items);
      later : g.P.Counted.faults l.fn.depot ≤ g.P.Counted.faults l.depot;
    }

abbrev pub decreases-loop-provider : goal.decreases-loop-provider
decreases-loop-provider g l = length l.providers.items
