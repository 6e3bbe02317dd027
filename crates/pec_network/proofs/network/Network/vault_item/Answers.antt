use Rattle.std.proofs.Common.{Global, Vec, ℕ, ◌<◌, length, ◌∙◌, None, arith, refl, sym}
use Rattle.pec_ledger.specs.Lookups.{archive}
use Rattle.pec_plays.specs.Commands.{Luck, Shown, VaultShow, played}
use Rattle.pec_provider.specs.Following.{MayFollow}
use Rattle.pec_provider.specs.Reading.{VaultItemIsChanged}
use Rattle.pec_provider.specs.OfTrades.{trade_of}
use Rattle.pec_chronicle.specs.CarryingLaws.{carries_nothing}
use Rattle.pec_chronicle.specs.Chronicle.{Stands}
use Rattle.pec_network.specs.Judging.{lists_of}
use Rattle.pec_network.specs.Carrying.{AllStand}
use Rattle.pec_network.specs.Network.{NetworkState, sites_of}
use Rattle.pec_network.proofs.ChangeLemmas.{runs_from, stands_of_all, whole_from}
use Rattle.pec_network.proofs.ConcernLemmas.{concerns_nobody, concerns_one}
use Rattle.pec_network.proofs.ShowLemmas.{none_told, plays_box, read_as, own_so, show_so, vault_item_nowhere, vault_show_is}
use Rattle.pec_network.proofs.network.Network.vault_item.Goals as goal

pub returns-in_default-clause-shown : goal.returns-in_default-clause-shown
returns-in_default-clause-shown g c =
    rw (← c.self.view_is)
    (record {
      shown = None;
      kept = λ stood. refl;
      unchanged = λ stood number is. cc;
      is = (
        vault_item_nowhere (trade_of c.self.inside.directory (g.S.Sealer.seals c.self.inside.sealer)) _
            (sites_of c.self.inside.providers.items (lists_of g.J.Judge.patterns c.self.inside.judges.items) c.self.inside.arrivals.items) c.args.account.now c.args.place
            ((c.a_trade_says_what_its_parts_say.ensures.directory c.self.inside.directory (g.S.Sealer.seals c.self.inside.sealer)).home
            c.args.account.now ∙ sym c.in_default.ensures.home),
        refl,
      );
    })

pub returns-in_default-clause-concerns : goal.returns-in_default-clause-concerns
returns-in_default-clause-concerns g c =
    let was : NetworkState g.row.D.Denot g.row.S.Denot = record {
      kept = c.self.inside.directory;
      sealer = c.self.inside.sealer;
      providers = c.self.inside.providers.items;
      screens = lists_of g.J.Judge.patterns c.self.inside.judges.items;
      looks = lists_of g.J.Judge.seen c.self.inside.judges.items;
      waiting = c.self.inside.arrivals.items;
    } in
    rw (← c.self.view_is)
    (concerns_nobody was _ g.D.Disk.sight g.D.Counted.faults g.D.Disk.tells g.S.Sealer.seals c.what_rests_carries_on.ensures)

pub index_mut-requires : goal.index_mut-requires
index_mut-requires g c =
    let within = c.in-Some.ensures.within in
    let count = c.self.invariant.0.count in
    let size = c.self.inside.providers.ok.0 in
    omega arith

pub vault_item-requires : goal.vault_item-requires
vault_item-requires g c =
    let inside = c.in-Some.ensures.within in
    let count = c.self.invariant.0.count in
    record {
      runs = runs_from c.self.inside.providers.items c.in-Some.me c.index_mut.result.now c.index_mut.result.now (omega arith)
          c.index_mut.ensures.value c.self.inside.directory c.self.inside.arrivals.items c.self.invariant.0;
    }

pub invariant_of-self : goal.invariant_of-self
invariant_of-self g c =
    let inside = c.in-Some.ensures.within in
    let count = c.self.invariant.0.count in (
      whole_from c.self.inside.providers.items c.in-Some.me c.index_mut.result.now c.vault_item.new.self (omega arith)
          c.index_mut.ensures.value c.self.inside.directory c.self.inside.arrivals.items c.self.invariant.0 c.vault_item.ensures.runs
          c.vault_item.ensures.owed,
      c.self.invariant.1,
    )

pub returns-clause-shown : goal.returns-clause-shown
returns-clause-shown g c =
    let inside = c.in-Some.ensures.within in
    let count = c.self.invariant.0.count in
    let within : c.in-Some.me < length c.self.inside.providers.items = omega arith in
    let trade = trade_of c.self.inside.directory (g.S.Sealer.seals c.self.inside.sealer) in
    let says = c.a_trade_says_what_its_parts_say.ensures.directory c.self.inside.directory (g.S.Sealer.seals c.self.inside.sealer) in
    let was = c.index_mut.result.now in
    let runs = runs_from c.self.inside.providers.items c.in-Some.me was was within c.index_mut.ensures.value c.self.inside.directory
    c.self.inside.arrivals.items c.self.invariant.0 in
    let stands : AllStand g.D.Disk.sight c.self.inside.providers.items → Stands g.D.Disk.sight was.chronicle =
    stands_of_all c.self.inside.providers.items c.in-Some.me was c.vault_item.new.self within c.index_mut.ensures.value
    g.D.Disk.sight in
    let screens = lists_of g.J.Judge.patterns c.self.inside.judges.items in
    let all = sites_of c.self.inside.providers.items screens c.self.inside.arrivals.items in
    let here = show_so archive trade c.self.inside.providers.items screens c.self.inside.arrivals.items c.args.account.now c.args.place
    c.in-Some.me was c.vault_item.new.self within c.index_mut.ensures.value
    (says.home c.args.account.now ∙ sym c.in-Some.ensures.home)
    (g.D.Disk.tells × AllStand g.D.Disk.sight c.self.inside.providers.items) c.vault_item.result c.vault_item.ensures.reads
    (c.vault_item.ensures.asked trade says) c.vault_item.ensures.some c.vault_item.ensures.refused
    (λ stood. c.vault_item.ensures.shown stood.0 (stands stood.1)) in
    rw (← c.self.view_is) (record {
      shown = here.other;
      kept = here.kept;
      unchanged = λ stood.
          none_told (VaultItemIsChanged trade c.in-Some.me was.chronicle.entries c.args.account.now c.args.place) c.vault_item.result
          (c.vault_item.ensures.changed stood.0 (stands stood.1))
          (c.nothing_has_changed.ensures.vaults trade c.in-Some.me was.chronicle.entries
          (own_so trade c.in-Some.me was runs says) c.args.account.now c.args.place);
      is = read_as (λ (bytes : Vec ℕ Global). Shown bytes.items)
          (λ (luck : Luck). plays_box trade archive c.args.account.now c.args.place luck all)
          (λ (luck : Luck). played trade luck all (VaultShow c.args.account.now c.args.place))
          (λ luck. sym (vault_show_is trade luck all c.args.account.now c.args.place)) here.other all _ c.vault_item.result here.is;
    })

pub returns-clause-concerns : goal.returns-clause-concerns
returns-clause-concerns g c =
    let inside = c.in-Some.ensures.within in
    let count = c.self.invariant.0.count in
    let trade = trade_of c.self.inside.directory (g.S.Sealer.seals c.self.inside.sealer) in
    let says = c.a_trade_says_what_its_parts_say.ensures.directory c.self.inside.directory (g.S.Sealer.seals c.self.inside.sealer) in
    let was : NetworkState g.row.D.Denot g.row.S.Denot = record {
      kept = c.self.inside.directory;
      sealer = c.self.inside.sealer;
      providers = c.self.inside.providers.items;
      screens = lists_of g.J.Judge.patterns c.self.inside.judges.items;
      looks = lists_of g.J.Judge.seen c.self.inside.judges.items;
      waiting = c.self.inside.arrivals.items;
    } in
    rw (← c.self.view_is, says.home c.args.account.now ∙ sym c.in-Some.ensures.home)
    (concerns_one was c.in-Some.me c.index_mut.result.now c.vault_item.new.self (omega arith) c.index_mut.ensures.value
    g.D.Disk.sight g.D.Counted.faults g.D.Disk.tells g.S.Sealer.seals c.vault_item.result c.what_rests_carries_on.ensures
    (λ tells journals. carries_nothing g.D.Disk.sight (MayFollow trade journals c.in-Some.me) c.index_mut.result.now.chronicle
    c.vault_item.new.self.chronicle (c.vault_item.ensures.carries tells))
    c.vault_item.ensures.disk_fault c.vault_item.ensures.later was.looks)
