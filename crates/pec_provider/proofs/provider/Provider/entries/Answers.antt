use Rattle.std.proofs.Common.{ap, ◌∙◌}
use Rattle.pec_ledger.specs.Half.{Half}
use Rattle.pec_provider.proofs.KeptLemmas.{have_entries}
use Rattle.pec_provider.proofs.RunLemmas.{half_runs}
use Rattle.pec_provider.proofs.provider.Provider.entries.Goals as goal

pub returns : goal.returns
returns g c =
    rw (← c.self.view_is)
    (λ kept seals me trade runs of.
    c.entries.ensures ∙ ap (λ (h : Half). h.entries) (half_runs kept me _ trade runs of)
    ∙ (have_entries trade me c.self.inside.chronicle.entries).count)
