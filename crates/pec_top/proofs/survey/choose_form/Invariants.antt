use Rattle.std.proofs.Common.{◌≡◌, ℕ, ◌<◌, ◌≤◌, []}
use Rattle.pec_types.specs.Bytes.{Bytes}
use Rattle.pec_runs.specs.Openings.{disks_at}
use Rattle.pec_top.specs.Surveys.{AreAsTheyWere}
use Rattle.pec_top.proofs.survey.choose_form.Given as goal

abbrev pub invariant-loop-provider : goal.invariant-loop-provider
invariant-loop-provider g l =
    let port = g.P.Depot in record {
      empty : (k : ℕ) → k < l.provider → (bytes : Bytes)
          → (disks_at (port.tells × g.P.D.Disk.tells) g.P.D.Disk.sight (port.home l.fn.depot)).reads k bytes → bytes ≡ [];
      elsewhere : port.tells → (k : ℕ) → l.count ≤ k → port.home l.depot k ≡ port.home l.fn.depot k;
      rest : port.tells → AreAsTheyWere g.P.D.Disk.tells g.P.D.Disk.sight (port.home l.fn.depot) (port.home l.depot);
      last : (k : ℕ) → port.last l.fn.depot k ≤ port.last l.depot k;
      later : g.P.Counted.faults l.fn.depot ≤ g.P.Counted.faults l.depot;
    }
