use Rattle.std.proofs.Common.{arith}
use Rattle.pec_plays.specs.Commands.{Upgrade, Upgraded, played}
use Rattle.pec_provider.specs.OfTrades.{trade_of}
use Rattle.pec_network.specs.Judging.{lists_of}
use Rattle.pec_network.specs.Network.{NetworkState}
use Rattle.pec_network.proofs.ChangeLemmas.{number_within, plays_from, runs_from, whole_from}
use Rattle.pec_network.proofs.ConcernLemmas.{concerns_one}
use Rattle.pec_network.proofs.network.Network.upgrade.Goals as goal

pub index_mut-requires : goal.index_mut-requires
index_mut-requires g c =
    let within = number_within _ c.args.self.now c.self.view_is c.self.invariant.0 c.args.provider c.requires in
    let size = c.self.inside.providers.ok.0 in
    omega arith

pub upgrade-requires : goal.upgrade-requires
upgrade-requires g c =
    let within = number_within _ c.args.self.now c.self.view_is c.self.invariant.0 c.args.provider c.requires in
    runs_from c.self.inside.providers.items c.args.provider c.index_mut.result.now c.index_mut.result.now within c.index_mut.ensures.value
    c.self.inside.directory c.self.inside.arrivals.items c.self.invariant.0

pub invariant_of-self : goal.invariant_of-self
invariant_of-self g c =
    let within = number_within _ c.args.self.now c.self.view_is c.self.invariant.0 c.args.provider c.requires in (
      whole_from c.self.inside.providers.items c.args.provider c.index_mut.result.now c.upgrade.new.self within c.index_mut.ensures.value
          c.self.inside.directory c.self.inside.arrivals.items c.self.invariant.0 c.upgrade.ensures.runs c.upgrade.ensures.owed,
      c.self.invariant.1,
    )

pub returns-clause-plays : goal.returns-clause-plays
returns-clause-plays g c =
    let within = number_within _ c.args.self.now c.self.view_is c.self.invariant.0 c.args.provider c.requires in
    rw (← c.self.view_is)
    (plays_from c.self.inside.providers.items c.args.provider c.index_mut.result.now c.upgrade.new.self within c.index_mut.ensures.value
    (λ (done : Unit {0}). Upgraded) (λ luck sites. played (trade_of c.self.inside.directory (g.S.Sealer.seals c.self.inside.sealer)) luck sites (Upgrade c.args.provider c.args.moment))
    (lists_of g.J.Judge.patterns c.self.inside.judges.items)
    c.self.inside.arrivals.items c.upgrade.result c.upgrade.ensures.plays)

pub returns-clause-concerns : goal.returns-clause-concerns
returns-clause-concerns g c =
    let within = number_within _ c.args.self.now c.self.view_is c.self.invariant.0 c.args.provider c.requires in
    let was : NetworkState g.row.D.Denot g.row.S.Denot = record {
      kept = c.self.inside.directory;
      sealer = c.self.inside.sealer;
      providers = c.self.inside.providers.items;
      screens = lists_of g.J.Judge.patterns c.self.inside.judges.items;
      looks = lists_of g.J.Judge.seen c.self.inside.judges.items;
      waiting = c.self.inside.arrivals.items;
    } in
    rw (← c.self.view_is)
    (concerns_one was c.args.provider c.index_mut.result.now c.upgrade.new.self within c.index_mut.ensures.value
    g.D.Disk.sight g.D.Counted.faults g.D.Disk.tells g.S.Sealer.seals c.upgrade.result c.what_rests_carries_on.ensures
    c.upgrade.ensures.carries c.upgrade.ensures.disk_fault c.upgrade.ensures.later was.looks)
