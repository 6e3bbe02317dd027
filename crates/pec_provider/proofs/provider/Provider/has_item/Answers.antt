-- The shelf's mailbox is that of the entries.
use Rattle.std.proofs.Common.{List, ap, ◌∙◌}
use Rattle.std.specs.Prelude.{length, nat_lt}
use Rattle.pec_ledger.specs.Half.{Posted}
use Rattle.pec_provider.proofs.PlayLemmas.{some_within}
use Rattle.pec_provider.proofs.RunLemmas.{items_runs}
use Rattle.pec_provider.proofs.provider.Provider.has_item.Goals as goal

pub returns : goal.returns
returns g c = λ kept seals me trade runs of.
    some_within _ _ _ c.args.place _ c.posted.ensures c.is_some.ensures
    ∙ ap (λ (items : List Posted). nat_lt c.args.place (length items))
    (items_runs kept me _ c.args.self.now c.self.view_is trade runs of c.args.account.now)
