-- Another screen is the last spare, if one is left.
use Rattle.std.proofs.Common.{List, Option, None, Some, Ok, map, subst, sym, inl, refl}
use Rattle.std.specs.Prelude.{IfOk}
use Rattle.pec_ledger.specs.Network.{journals_of}
use Rattle.pec_plays.specs.Commands.{Screen}
use Rattle.pec_screen.specs.Verdicts.{Patterns}
use Rattle.pec_network.specs.Network.{sites, world_of}
use Rattle.pec_directory.specs.Directory.{providers_of}
use Rattle.pec_playing.specs.Doing.{Does}
use Rattle.pec_playing.specs.Looking.{LooksBy}
use Rattle.pec_playing.specs.Spares.{LeavesSpares}
use Rattle.pec_playing.proofs.SpareLemmas.{none_popped, none_there, popped, popped_last}
use Rattle.pec_playing.proofs.SwapLemmas.{none_says, none_stops, none_taken}
use Rattle.pec_playing.proofs.swapping.screen.Goals as goal

pub returns-in-None-clause-does : goal.returns-in-None-clause-does
returns-in-None-clause-does g c =
    let network = c.args.network.now in
    let trade = world_of g.S.Sealer.seals network in
    subst (λ (spare : Option Patterns). Does g.D.Disk.sight g.D.Counted.faults g.D.Disk.tells trade
    (Screen c.args.provider c.args.place spare) network network (Ok c.in_ok-text-in-None.text))
    (sym (none_there g.J.Judge.spare_patterns c.args.spares.now.items _ c.args.spares.now.ok.0 c.in-None.ensures.cases.0))
    (none_says g.D.Disk.sight g.D.Counted.faults g.D.Disk.tells trade c.args.provider c.args.place network
    c.in_ok-text-in-None.text c.in_ok-text-in-None.ensures)

pub returns-in_err-text-in-None-clause-does : goal.returns-in_err-text-in-None-clause-does
returns-in_err-text-in-None-clause-does g c =
    let network = c.args.network.now in
    let trade = world_of g.S.Sealer.seals network in
    subst (λ (spare : Option Patterns). Does g.D.Disk.sight g.D.Counted.faults g.D.Disk.tells trade
    (Screen c.args.provider c.args.place spare) network network c.from_residual.result)
    (sym (none_there g.J.Judge.spare_patterns c.args.spares.now.items _ c.args.spares.now.ok.0 c.in-None.ensures.cases.0))
    (none_stops g.D.Disk.sight g.D.Counted.faults g.D.Disk.tells trade c.args.provider c.args.place network
    c.from_residual.result c.from_residual.ensures.0)

pub returns-clause-does : goal.returns-clause-does
returns-clause-does g c =
    let network = c.args.network.now in
    let trade = world_of g.S.Sealer.seals network in
    subst (λ (spare : Option Patterns). Does g.D.Disk.sight g.D.Counted.faults g.D.Disk.tells trade
    (Screen c.args.provider c.args.place spare) network c.put.new.network c.put.result)
    (sym (popped_last g.J.Judge.spare_patterns c.args.spares.now.items c.pop.new.self.items c.in-Some.spare
    c.in-Some.ensures.items)) c.put.ensures.does

pub returns-in-None-clause-carries : goal.returns-in-None-clause-carries
returns-in-None-clause-carries g c = λ told sound.
    let network = c.args.network.now in
    c.a_call_leaves_what_follows.ensures.rests told (world_of g.S.Sealer.seals network) (journals_of (sites network))
    network.providers

pub returns-in_err-text-in-None-clause-carries : goal.returns-in_err-text-in-None-clause-carries
returns-in_err-text-in-None-clause-carries g c = λ told sound.
    let network = c.args.network.now in
    c.a_call_leaves_what_follows.ensures.rests told (world_of g.S.Sealer.seals network) (journals_of (sites network))
    network.providers

pub returns-in-None-clause-looked : goal.returns-in-None-clause-looked
returns-in-None-clause-looked g c = inl refl

pub returns-in_err-text-in-None-clause-looked : goal.returns-in_err-text-in-None-clause-looked
returns-in_err-text-in-None-clause-looked g c = inl refl

pub returns-in-None-clause-left : goal.returns-in-None-clause-left
returns-in-None-clause-left g c =
    let network = c.args.network.now in
    let trade = world_of g.S.Sealer.seals network in
    let spares = map g.J.Judge.spare_patterns c.args.spares.now.items in
    let left = map g.J.Judge.spare_patterns c.pop.new.self.items in
    subst (λ (spare : Option Patterns). LeavesSpares trade spares (sites network)
    (Screen c.args.provider c.args.place spare) left)
    (sym (none_there g.J.Judge.spare_patterns c.args.spares.now.items _ c.args.spares.now.ok.0 c.in-None.ensures.cases.0))
    (subst (λ (now : List Patterns). LeavesSpares trade spares (sites network)
    (Screen c.args.provider c.args.place None) now)
    (none_popped g.J.Judge.spare_patterns c.args.spares.now.items c.pop.new.self.items c.in-None.ensures.items)
    (none_taken trade spares (sites network) c.args.provider c.args.place))

pub returns-clause-left : goal.returns-clause-left
returns-clause-left g c =
    let network = c.args.network.now in
    let trade = world_of g.S.Sealer.seals network in
    let all = popped g.J.Judge.spare_patterns c.args.spares.now.items c.pop.new.self.items c.in-Some.spare
    c.in-Some.ensures.items in
    subst (λ (spare : Option Patterns). IfOk c.put.result (λ text. LeavesSpares trade
    (map g.J.Judge.spare_patterns c.args.spares.now.items) (sites network)
    (Screen c.args.provider c.args.place spare) (map g.J.Judge.spare_patterns c.put.new.spares.items)))
    (sym (popped_last g.J.Judge.spare_patterns c.args.spares.now.items c.pop.new.self.items c.in-Some.spare
    c.in-Some.ensures.items))
    (subst (λ (spares : List Patterns). IfOk c.put.result (λ text. LeavesSpares trade spares (sites network)
    (Screen c.args.provider c.args.place (Some (g.J.Judge.spare_patterns c.in-Some.spare)))
    (map g.J.Judge.spare_patterns c.put.new.spares.items))) (sym all) c.put.ensures.left)

pub returns-clause-looked : goal.returns-clause-looked
returns-clause-looked g c =
    let network = c.args.network.now in
    subst (λ (spare : Option Patterns). LooksBy (providers_of network.kept) (sites network)
    (Screen c.args.provider c.args.place spare) network.looks c.put.new.network.looks)
    (sym (popped_last g.J.Judge.spare_patterns c.args.spares.now.items c.pop.new.self.items c.in-Some.spare
    c.in-Some.ensures.items)) c.put.ensures.looked
