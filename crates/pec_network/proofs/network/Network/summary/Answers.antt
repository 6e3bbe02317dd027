-- The sites have the providers' entries.
use Rattle.std.proofs.Common.{ap, ◌∙◌}
use Rattle.pec_provider.specs.Summing.{nothing_yet}
use Rattle.pec_provider.specs.OfTrades.{trade_of}
use Rattle.pec_network.specs.Judging.{lists_of}
use Rattle.pec_network.specs.Summing.{total_over}
use Rattle.pec_network.proofs.SummingLemmas.{total_is}
use Rattle.pec_network.proofs.network.Network.summary.Goals as goal

pub returns : goal.returns
returns g c =
    let seals = g.S.Sealer.seals c.self.inside.sealer in
    let kept = c.self.inside.directory in
    let trade = trade_of kept seals in
    let providers = c.self.inside.providers.items in
    let slice = c.as_slice.ensures.value in
    let of = c.a_trade_says_what_its_parts_say.ensures.directory kept seals in
    rw (← c.self.view_is)
    (c.summary_of.ensures kept seals trade of (rw slice c.self.invariant.0.runs)
    ∙ (ap (total_over trade nothing_yet 0) slice ∙ total_is trade providers (lists_of g.J.Judge.patterns c.self.inside.judges.items) c.self.inside.arrivals.items nothing_yet 0))
