-- The shelf's half is what the entries come to.
use Rattle.std.proofs.Common.{ℕ, ap, ◌∙◌}
use Rattle.pec_ledger.specs.Steps.{half}
use Rattle.pec_shelf.specs.Summaries.{summary_within}
use Rattle.pec_provider.proofs.provider.Provider.summary_within.Goals as goal

pub returns-clause-is : goal.returns-clause-is
returns-clause-is g c =
    rw (← c.self.view_is)
    (λ kept seals me trade runs of.
    c.summary_within.ensures.is trade (runs.agree.holds.homes trade of)
    ∙ (ap (summary_within trade c.self.inside.shelf.me c.args.from c.args.upto) (runs.agree.holds.is_half trade of)
    ∙ ap (λ (number : ℕ). summary_within trade number c.args.from c.args.upto (half trade number c.self.inside.chronicle.entries)) runs.is))
