use Rattle.std.proofs.Common.{◌≡◌, ◌∙◌, ◌<◌, List, [], Bool, ap, arith, get_or, length, set, subst, sym}
use Rattle.std.proofs.lemmas.List.{length-set}
use Rattle.pec_types.specs.declared.turns.Submitted.{Submitted}
use Rattle.pec_directory.specs.Directory.{providers_of}
use Rattle.pec_ledger.specs.Network.{Site}
use Rattle.pec_plays.specs.Commands.{Luck, Submit, Submits, finds_at, played}
use Rattle.pec_points.specs.Case.{Case, case_at}
use Rattle.pec_provider.specs.Looking.{Looks}
use Rattle.pec_provider.specs.Playing.{PlaysWith}
use Rattle.pec_provider.specs.Provider.{desk_of}
use Rattle.pec_screen.specs.Perhaps.{all_of}
use Rattle.pec_screen.specs.VerdictReading.{finds}
use Rattle.pec_screen.specs.Verdicts.{Patterns}
use Rattle.pec_provider.specs.OfTrades.{trade_of}
use Rattle.pec_network.specs.Changing.{ConcernsOne}
use Rattle.pec_network.specs.Judging.{lists_of}
use Rattle.pec_network.specs.Network.{NetworkState, sites_of}
use Rattle.pec_network.specs.Playing.{IsPlayed}
use Rattle.pec_network.proofs.ChangeLemmas.{number_within, plays_with, runs_from, there_from, whole_from}
use Rattle.pec_network.proofs.ConcernLemmas.{concerns_one}
use Rattle.pec_network.proofs.JudgeLemmas.{list_at, lists_same, only_looks}
use Rattle.pec_network.proofs.network.Network.submit.Goals as goal

pub index_mut-screens-requires : goal.index_mut-screens-requires
index_mut-screens-requires g c =
    let within = number_within _ c.args.self.now c.self.view_is c.self.invariant.0 c.args.provider c.requires.provider in
    let many = c.self.invariant.1 in
    let count = c.self.invariant.0.count in
    let size = c.self.inside.judges.ok.0 in
    omega arith

pub index_mut-requires : goal.index_mut-requires
index_mut-requires g c =
    let within = number_within _ c.args.self.now c.self.view_is c.self.invariant.0 c.args.provider c.requires.provider in
    let size = c.self.inside.providers.ok.0 in
    omega arith

pub submit-requires-clause-runs : goal.submit-requires-clause-runs
submit-requires-clause-runs g c =
    let within = number_within _ c.args.self.now c.self.view_is c.self.invariant.0 c.args.provider c.requires.provider in
    runs_from c.self.inside.providers.items c.args.provider c.index_mut.result.now c.index_mut.result.now within c.index_mut.ensures.value
    c.self.inside.directory c.self.inside.arrivals.items c.self.invariant.0

pub submit-requires-clause-path : goal.submit-requires-clause-path
submit-requires-clause-path g c = c.requires.path

pub submit-requires-clause-message : goal.submit-requires-clause-message
submit-requires-clause-message g c = c.requires.message

pub invariant_of-self : goal.invariant_of-self
invariant_of-self g c =
    let within = number_within _ c.args.self.now c.self.view_is c.self.invariant.0 c.args.provider c.requires.provider in (
      whole_from c.self.inside.providers.items c.args.provider c.index_mut.result.now c.submit.new.self within c.index_mut.ensures.value
          c.self.inside.directory c.self.inside.arrivals.items c.self.invariant.0 c.submit.ensures.runs c.submit.ensures.owed,
      length-set c.self.inside.judges.items c.args.provider c.submit.new.screens ∙ c.self.invariant.1,
    )

pub returns-clause-plays : goal.returns-clause-plays
returns-clause-plays g c =
    let within = number_within _ c.args.self.now c.self.view_is c.self.invariant.0 c.args.provider c.requires.provider in
    let judges = c.self.inside.judges.items in
    let inside : c.args.provider < length judges =
    (let many = c.self.invariant.1 in let count = c.self.invariant.0.count in omega arith) in
    let screens = lists_of g.J.Judge.patterns judges in
    let old = c.index_mut-screens.result.now in
    let boxes : get_or screens c.args.provider [] ≡ all_of g.J.Judge.patterns old.judge =
    list_at g.J.Judge.patterns judges c.args.provider old c.submit.new.screens inside c.index_mut-screens.ensures.value in
    let same : lists_of g.J.Judge.patterns (set judges c.args.provider c.submit.new.screens) ≡ screens =
    lists_same g.J.Judge.patterns judges c.args.provider old c.submit.new.screens inside c.index_mut-screens.ensures.value
    c.submit.ensures.patterns in
    let trade = trade_of c.self.inside.directory (g.S.Sealer.seals c.self.inside.sealer) in
    let play = λ (luck : Luck) (sites : List Site). played trade luck sites
    (Submit c.args.provider c.args.moment c.args.sender.now c.args.path.now c.args.message.now) in
    let all = sites_of c.self.inside.providers.items screens c.self.inside.arrivals.items in
    rw (← c.self.view_is)
    (subst (λ (s : List (List Patterns)). IsPlayed Submits (λ (luck : Luck). play luck all) all
    (sites_of (set c.self.inside.providers.items c.args.provider c.submit.new.self) s c.self.inside.arrivals.items)
    c.submit.result) (sym same)
    (plays_with c.self.inside.providers.items c.args.provider c.index_mut.result.now c.submit.new.self within c.index_mut.ensures.value
    (λ (told : Submitted). Submits told) play screens c.self.inside.arrivals.items c.submit.result
    (subst (λ (b : List Patterns). PlaysWith (λ (told : Submitted). Submits told) play c.args.provider b
    (desk_of c.index_mut.result.now) (desk_of c.submit.new.self) c.submit.result) (sym boxes) c.submit.ensures.plays)))

pub returns-clause-concerns : goal.returns-clause-concerns
returns-clause-concerns g c =
    let within = number_within _ c.args.self.now c.self.view_is c.self.invariant.0 c.args.provider c.requires.provider in
    let judges = c.self.inside.judges.items in
    let inside : c.args.provider < length judges =
    (let many = c.self.invariant.1 in let count = c.self.invariant.0.count in omega arith) in
    let same = lists_same g.J.Judge.patterns judges c.args.provider c.index_mut-screens.result.now c.submit.new.screens inside
    c.index_mut-screens.ensures.value c.submit.ensures.patterns in
    let looks = lists_of g.J.Judge.seen (set judges c.args.provider c.submit.new.screens) in
    let was : NetworkState g.row.D.Denot g.row.S.Denot = record {
      kept = c.self.inside.directory;
      sealer = c.self.inside.sealer;
      providers = c.self.inside.providers.items;
      screens = lists_of g.J.Judge.patterns c.self.inside.judges.items;
      looks = lists_of g.J.Judge.seen c.self.inside.judges.items;
      waiting = c.self.inside.arrivals.items;
    } in
    rw (← c.self.view_is)
    (subst (λ (s : List (List Patterns)). ConcernsOne g.D.Disk.sight g.D.Counted.faults g.D.Disk.tells g.S.Sealer.seals
    c.args.provider was (record was {
      providers = set c.self.inside.providers.items c.args.provider c.submit.new.self;
      screens = s;
      looks = looks;
    }) c.submit.result) (sym same)
    (concerns_one was c.args.provider c.index_mut.result.now c.submit.new.self within c.index_mut.ensures.value
    g.D.Disk.sight g.D.Counted.faults g.D.Disk.tells g.S.Sealer.seals c.submit.result c.what_rests_carries_on.ensures
    c.submit.ensures.carries c.submit.ensures.disk_fault c.submit.ensures.later looks))

pub returns-clause-looked : goal.returns-clause-looked
returns-clause-looked g c =
    let within = number_within _ c.args.self.now c.self.view_is c.self.invariant.0 c.args.provider c.requires.provider in
    let judges = c.self.inside.judges.items in
    let inside : c.args.provider < length judges =
    (let many = c.self.invariant.1 in let count = c.self.invariant.0.count in omega arith) in
    let screens = lists_of g.J.Judge.patterns judges in
    let old = c.index_mut-screens.result.now in
    let case_of : Bool → Case = λ found. case_at (providers_of c.self.inside.directory) c.args.provider c.args.sender.now
    c.args.path.now c.args.message.now found in
    let found : finds (all_of g.J.Judge.patterns old.judge) c.args.message.now
    ≡ finds_at (sites_of c.self.inside.providers.items screens c.self.inside.arrivals.items) c.args.provider c.args.message.now =
    ap (λ (b : List Patterns). finds b c.args.message.now)
    (sym (list_at g.J.Judge.patterns judges c.args.provider old c.submit.new.screens inside c.index_mut-screens.ensures.value))
    ∙ ap (λ (s : Site). finds s.screens c.args.message.now)
    (sym (there_from c.self.inside.providers.items c.args.provider c.index_mut.result.now c.submit.new.self within
    c.index_mut.ensures.value screens c.self.inside.arrivals.items)) in
    rw (← c.self.view_is)
    (only_looks g.J.Judge.seen judges c.args.provider old c.submit.new.screens inside c.index_mut-screens.ensures.value
    (case_of (finds_at (sites_of c.self.inside.providers.items screens c.self.inside.arrivals.items) c.args.provider
    c.args.message.now)) c.submit.result
    (subst (λ (b : Bool). Looks (case_of b) (all_of g.J.Judge.seen old.judge) (all_of g.J.Judge.seen c.submit.new.screens.judge)
    c.submit.result) found c.submit.ensures.looked))
