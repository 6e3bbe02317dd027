-- The shelf's version is that of the entries.
use Rattle.std.proofs.Common.{ℕ, ◌==◌, ap}
use Rattle.pec_provider.proofs.RunLemmas.{version_runs}
use Rattle.pec_provider.proofs.provider.Provider.is_of_version.Goals as goal

pub returns : goal.returns
returns g c = λ kept seals me trade runs of.
    ap (λ (n : ℕ). n == c.args.version)
    (version_runs kept me _ c.args.self.now c.self.view_is trade runs of c.version.result c.version.ensures)
