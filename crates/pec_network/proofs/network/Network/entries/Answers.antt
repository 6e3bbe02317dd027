use Rattle.std.proofs.Common.{◌∙◌, sym}
use Rattle.pec_provider.specs.OfTrades.{trade_of}
use Rattle.pec_network.specs.Judging.{lists_of}
use Rattle.pec_network.proofs.ChangeLemmas.{entries_from, number_within, runs_from}
use Rattle.pec_network.proofs.network.Network.entries.Goals as goal

pub returns : goal.returns
returns g c =
    let within = number_within _ c.args.self.now c.self.view_is c.self.invariant.0 c.args.provider c.requires in
    let seals = g.S.Sealer.seals c.self.inside.sealer in
    rw (← c.self.view_is)
    (c.entries.ensures c.self.inside.directory seals c.args.provider (trade_of c.self.inside.directory seals)
    (runs_from c.self.inside.providers.items c.args.provider c.index.result.now c.index.result.now within c.index.ensures
    c.self.inside.directory c.self.inside.arrivals.items c.self.invariant.0)
    (c.a_trade_says_what_its_parts_say.ensures.directory c.self.inside.directory seals)
    ∙ sym (entries_from c.self.inside.providers.items c.args.provider c.index.result.now c.index.result.now within c.index.ensures
    (lists_of g.J.Judge.patterns c.self.inside.judges.items) c.self.inside.arrivals.items))
