use Rattle.std.proofs.Common.{◌<◌, ◌∙◌, List, Some, arith, length, refl, sym}
use Rattle.pec_ledger.specs.Network.{Site}
use Rattle.pec_plays.specs.Commands.{Archived, Luck, account_home, archived}
use Rattle.pec_provider.specs.OfTrades.{trade_of}
use Rattle.pec_network.specs.Judging.{lists_of}
use Rattle.pec_network.specs.Network.{NetworkState, sites_of}
use Rattle.pec_network.proofs.ArchiveLemmas.{archive_nowhere, archive_there}
use Rattle.pec_network.proofs.ChangeLemmas.{plays_from, runs_from, whole_from}
use Rattle.pec_network.proofs.ConcernLemmas.{concerns_nobody, concerns_one}
use Rattle.pec_network.proofs.network.Network.archive.Goals as goal

pub returns-in_default-clause-plays : goal.returns-in_default-clause-plays
returns-in_default-clause-plays g c =
    rw (← c.self.view_is) (
      archive_nowhere (trade_of c.self.inside.directory (g.S.Sealer.seals c.self.inside.sealer)) c.args.account.now
          c.args.moment c.args.place _
          (sites_of c.self.inside.providers.items (lists_of g.J.Judge.patterns c.self.inside.judges.items) c.self.inside.arrivals.items)
          ((c.a_trade_says_what_its_parts_say.ensures.directory c.self.inside.directory (g.S.Sealer.seals c.self.inside.sealer)).home
          c.args.account.now ∙ sym c.in_default.ensures.home),
      refl,
    )

pub returns-in_default-clause-concerns : goal.returns-in_default-clause-concerns
returns-in_default-clause-concerns g c =
    let was : NetworkState g.row.D.Denot g.row.S.Denot = record {
      kept = c.self.inside.directory;
      sealer = c.self.inside.sealer;
      providers = c.self.inside.providers.items;
      screens = lists_of g.J.Judge.patterns c.self.inside.judges.items;
      looks = lists_of g.J.Judge.seen c.self.inside.judges.items;
      waiting = c.self.inside.arrivals.items;
    } in
    rw (← c.self.view_is)
    (concerns_nobody was _ g.D.Disk.sight g.D.Counted.faults g.D.Disk.tells g.S.Sealer.seals c.what_rests_carries_on.ensures)

pub index_mut-requires : goal.index_mut-requires
index_mut-requires g c =
    let within = c.in-Some.ensures.within in
    let count = c.self.invariant.0.count in
    let size = c.self.inside.providers.ok.0 in
    omega arith

pub archive-requires : goal.archive-requires
archive-requires g c =
    let inside = c.in-Some.ensures.within in
    let count = c.self.invariant.0.count in
    runs_from c.self.inside.providers.items c.in-Some.me c.index_mut.result.now c.index_mut.result.now (omega arith)
    c.index_mut.ensures.value c.self.inside.directory c.self.inside.arrivals.items c.self.invariant.0

pub invariant_of-self : goal.invariant_of-self
invariant_of-self g c =
    let inside = c.in-Some.ensures.within in
    let count = c.self.invariant.0.count in (
      whole_from c.self.inside.providers.items c.in-Some.me c.index_mut.result.now c.archive.new.self (omega arith)
          c.index_mut.ensures.value c.self.inside.directory c.self.inside.arrivals.items c.self.invariant.0
          c.archive.ensures.runs c.archive.ensures.owed,
      c.self.invariant.1,
    )

pub returns-clause-plays : goal.returns-clause-plays
returns-clause-plays g c =
    let inside = c.in-Some.ensures.within in
    let count = c.self.invariant.0.count in
    let within : c.in-Some.me < length c.self.inside.providers.items = omega arith in
    let trade = trade_of c.self.inside.directory (g.S.Sealer.seals c.self.inside.sealer) in
    let says = c.a_trade_says_what_its_parts_say.ensures.directory c.self.inside.directory (g.S.Sealer.seals c.self.inside.sealer) in
    let screens = lists_of g.J.Judge.patterns c.self.inside.judges.items in
    rw (← c.self.view_is)
    (archive_there trade c.args.account.now c.args.moment c.args.place (λ (done : Unit {0}). Archived) c.in-Some.me
    (sites_of c.self.inside.providers.items screens c.self.inside.arrivals.items) _ c.archive.result
    (says.home c.args.account.now ∙ sym c.in-Some.ensures.home)
    (plays_from c.self.inside.providers.items c.in-Some.me c.index_mut.result.now c.archive.new.self within
    c.index_mut.ensures.value (λ (done : Unit {0}). Archived)
    (λ (luck : Luck) (sites : List Site). archived trade luck sites
    (account_home trade c.args.account.now (Some c.in-Some.me)) c.args.moment c.args.account.now c.args.place)
    screens c.self.inside.arrivals.items c.archive.result c.archive.ensures.plays))

pub returns-clause-concerns : goal.returns-clause-concerns
returns-clause-concerns g c =
    let inside = c.in-Some.ensures.within in
    let count = c.self.invariant.0.count in
    let says = c.a_trade_says_what_its_parts_say.ensures.directory c.self.inside.directory (g.S.Sealer.seals c.self.inside.sealer) in
    let was : NetworkState g.row.D.Denot g.row.S.Denot = record {
      kept = c.self.inside.directory;
      sealer = c.self.inside.sealer;
      providers = c.self.inside.providers.items;
      screens = lists_of g.J.Judge.patterns c.self.inside.judges.items;
      looks = lists_of g.J.Judge.seen c.self.inside.judges.items;
      waiting = c.self.inside.arrivals.items;
    } in
    rw (← c.self.view_is, says.home c.args.account.now ∙ sym c.in-Some.ensures.home)
    (concerns_one was c.in-Some.me c.index_mut.result.now c.archive.new.self (omega arith) c.index_mut.ensures.value
    g.D.Disk.sight g.D.Counted.faults g.D.Disk.tells g.S.Sealer.seals c.archive.result c.what_rests_carries_on.ensures
    c.archive.ensures.carries c.archive.ensures.disk_fault c.archive.ensures.later was.looks)
