use Rattle.std.proofs.Common.{◌∙◌, arith, sym}
use Rattle.pec_provider.specs.OfTrades.{trade_of}
use Rattle.pec_network.specs.Judging.{lists_of}
use Rattle.pec_network.specs.Network.{sites_of}
use Rattle.pec_network.proofs.ChangeLemmas.{runs_from}
use Rattle.pec_network.proofs.ShowLemmas.{vault_nowhere, vault_so}
use Rattle.pec_network.proofs.network.Network.vault.Goals as goal

pub returns-in_default : goal.returns-in_default
returns-in_default g c = λ luck.
    rw (← c.self.view_is)
    (vault_nowhere (trade_of c.self.inside.directory (g.S.Sealer.seals c.self.inside.sealer)) luck (sites_of c.self.inside.providers.items (lists_of g.J.Judge.patterns c.self.inside.judges.items) c.self.inside.arrivals.items) c.args.account.now
    ((c.a_trade_says_what_its_parts_say.ensures.directory c.self.inside.directory (g.S.Sealer.seals c.self.inside.sealer)).home c.args.account.now ∙ sym c.in_default.ensures.home))

pub index-requires : goal.index-requires
index-requires g c =
    let within = c.in-Some.ensures.within in
    let count = c.self.invariant.0.count in
    let size = c.self.inside.providers.ok.0 in
    omega arith

pub vault-requires : goal.vault-requires
vault-requires g c =
    let inside = c.in-Some.ensures.within in
    let count = c.self.invariant.0.count in
    runs_from c.self.inside.providers.items c.in-Some.me c.index.result.now c.index.result.now (omega arith) c.index.ensures
    c.self.inside.directory c.self.inside.arrivals.items c.self.invariant.0

pub returns : goal.returns
returns g c = λ luck.
    let inside = c.in-Some.ensures.within in
    let count = c.self.invariant.0.count in
    rw (← c.self.view_is)
    (vault_so (trade_of c.self.inside.directory (g.S.Sealer.seals c.self.inside.sealer)) luck c.self.inside.providers.items (lists_of g.J.Judge.patterns c.self.inside.judges.items) c.self.inside.arrivals.items c.args.account.now c.in-Some.me c.index.result.now
    (omega arith) c.index.ensures
    ((c.a_trade_says_what_its_parts_say.ensures.directory c.self.inside.directory (g.S.Sealer.seals c.self.inside.sealer)).home c.args.account.now ∙ sym c.in-Some.ensures.home) c.vault.result
    (c.vault.ensures.asked (trade_of c.self.inside.directory (g.S.Sealer.seals c.self.inside.sealer)) (c.a_trade_says_what_its_parts_say.ensures.directory c.self.inside.directory (g.S.Sealer.seals c.self.inside.sealer))) (c.vault.ensures.refused (trade_of c.self.inside.directory (g.S.Sealer.seals c.self.inside.sealer)) (c.a_trade_says_what_its_parts_say.ensures.directory c.self.inside.directory (g.S.Sealer.seals c.self.inside.sealer))) (c.vault.ensures.lines (trade_of c.self.inside.directory (g.S.Sealer.seals c.self.inside.sealer)) (c.a_trade_says_what_its_parts_say.ensures.directory c.self.inside.directory (g.S.Sealer.seals c.self.inside.sealer))))
