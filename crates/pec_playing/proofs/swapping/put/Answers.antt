-- A spare is put into the place of a screen, or back.
use Rattle.std.proofs.Common.{◌∷◌, ◌++◌, ◌∙◌, [], List, ap, map, subst, sym}
use Rattle.pec_screen.specs.Verdicts.{Patterns}
use Rattle.pec_network.specs.Network.{sites, world_of}
use Rattle.pec_plays.specs.Commands.{Screen}
use Rattle.std.specs.Prelude.{Some}
use Rattle.pec_playing.specs.Spares.{LeavesSpares}
use Rattle.pec_playing.proofs.MomentLemmas.{carries_screens}
use Rattle.pec_playing.proofs.SpareLemmas.{popped}
use Rattle.pec_playing.proofs.SwapLemmas.{put_leaves, put_says, put_stops, refused_leaves, refused_says, swap_looks}
use Rattle.pec_playing.proofs.SwapLemmas.{kept_looks}
use Rattle.pec_playing.proofs.swapping.put.Goals as goal

pub returns-in-Ok-clause-does : goal.returns-in-Ok-clause-does
returns-in-Ok-clause-does g c =
    let network = c.args.network.now in
    put_says g.D.Disk.sight g.D.Counted.faults g.D.Disk.tells (world_of g.S.Sealer.seals network) c.args.provider c.args.place
    (g.J.Judge.spare_patterns c.args.spare) network c.replace.new.self c.replace.ensures.others c.replace.result
    c.replace.ensures.plays tt c.in-Ok.is c.in_ok-text-in-Ok.text c.in_ok-text-in-Ok.ensures

pub returns-in_err-text-in-Ok-clause-does : goal.returns-in_err-text-in-Ok-clause-does
returns-in_err-text-in-Ok-clause-does g c =
    let network = c.args.network.now in
    put_stops g.D.Disk.sight g.D.Counted.faults g.D.Disk.tells (world_of g.S.Sealer.seals network) c.args.provider
    c.args.place (g.J.Judge.spare_patterns c.args.spare) network c.replace.new.self c.replace.ensures.others
    c.replace.result c.replace.ensures.plays c.from_residual.result c.from_residual.ensures.0

pub returns-in-Err-clause-does : goal.returns-in-Err-clause-does
returns-in-Err-clause-does g c =
    let network = c.args.network.now in
    refused_says g.D.Disk.sight g.D.Counted.faults g.D.Disk.tells (world_of g.S.Sealer.seals network) c.args.provider
    c.args.place (g.J.Judge.spare_patterns c.args.spare) network c.replace.new.self c.replace.ensures.others
    c.replace.result c.replace.ensures.plays c.in-Err.spare c.in-Err.fault c.in-Err.is c.in_ok-text-in-Err.text
    c.in_ok-text-in-Err.ensures

pub returns-in_err-push-in-Err-clause-does : goal.returns-in_err-push-in-Err-clause-does
returns-in_err-push-in-Err-clause-does g c =
    let network = c.args.network.now in
    put_stops g.D.Disk.sight g.D.Counted.faults g.D.Disk.tells (world_of g.S.Sealer.seals network) c.args.provider
    c.args.place (g.J.Judge.spare_patterns c.args.spare) network c.replace.new.self c.replace.ensures.others
    c.replace.result c.replace.ensures.plays c.from_residual-in_err-push-in-Err.result c.from_residual-in_err-push-in-Err.ensures.0

pub returns-in_err-text-in-Err-clause-does : goal.returns-in_err-text-in-Err-clause-does
returns-in_err-text-in-Err-clause-does g c =
    let network = c.args.network.now in
    put_stops g.D.Disk.sight g.D.Counted.faults g.D.Disk.tells (world_of g.S.Sealer.seals network) c.args.provider
    c.args.place (g.J.Judge.spare_patterns c.args.spare) network c.replace.new.self c.replace.ensures.others
    c.replace.result c.replace.ensures.plays c.from_residual-in_err-text-in-Err.result
    c.from_residual-in_err-text-in-Err.ensures.0

pub returns-in-Ok-clause-carries : goal.returns-in-Ok-clause-carries
returns-in-Ok-clause-carries g c =
    let network = c.args.network.now in
    carries_screens g.D.Disk.sight g.D.Disk.tells (world_of g.S.Sealer.seals network) network c.replace.new.self
    c.replace.ensures.others c.a_call_leaves_what_follows.ensures.rests

pub returns-in-Ok-clause-looked : goal.returns-in-Ok-clause-looked
returns-in-Ok-clause-looked g c =
    let network = c.args.network.now in
    swap_looks c.args.provider c.args.place _ network.looks c.replace.new.self.looks c.replace.result
    c.replace.ensures.looked (kept_looks network c.replace.new.self c.replace.result c.replace.ensures.kept)

pub returns-in_err-text-in-Ok-clause-carries : goal.returns-in_err-text-in-Ok-clause-carries
returns-in_err-text-in-Ok-clause-carries g c =
    let network = c.args.network.now in
    carries_screens g.D.Disk.sight g.D.Disk.tells (world_of g.S.Sealer.seals network) network c.replace.new.self
    c.replace.ensures.others c.a_call_leaves_what_follows.ensures.rests

pub returns-in_err-text-in-Ok-clause-looked : goal.returns-in_err-text-in-Ok-clause-looked
returns-in_err-text-in-Ok-clause-looked g c =
    let network = c.args.network.now in
    swap_looks c.args.provider c.args.place _ network.looks c.replace.new.self.looks c.replace.result
    c.replace.ensures.looked (kept_looks network c.replace.new.self c.replace.result c.replace.ensures.kept)

pub returns-in-Err-clause-carries : goal.returns-in-Err-clause-carries
returns-in-Err-clause-carries g c =
    let network = c.args.network.now in
    carries_screens g.D.Disk.sight g.D.Disk.tells (world_of g.S.Sealer.seals network) network c.replace.new.self
    c.replace.ensures.others c.a_call_leaves_what_follows.ensures.rests

pub returns-in-Err-clause-looked : goal.returns-in-Err-clause-looked
returns-in-Err-clause-looked g c =
    let network = c.args.network.now in
    swap_looks c.args.provider c.args.place _ network.looks c.replace.new.self.looks c.replace.result
    c.replace.ensures.looked (kept_looks network c.replace.new.self c.replace.result c.replace.ensures.kept)

pub returns-in_err-push-in-Err-clause-carries : goal.returns-in_err-push-in-Err-clause-carries
returns-in_err-push-in-Err-clause-carries g c =
    let network = c.args.network.now in
    carries_screens g.D.Disk.sight g.D.Disk.tells (world_of g.S.Sealer.seals network) network c.replace.new.self
    c.replace.ensures.others c.a_call_leaves_what_follows.ensures.rests

pub returns-in_err-push-in-Err-clause-looked : goal.returns-in_err-push-in-Err-clause-looked
returns-in_err-push-in-Err-clause-looked g c =
    let network = c.args.network.now in
    swap_looks c.args.provider c.args.place _ network.looks c.replace.new.self.looks c.replace.result
    c.replace.ensures.looked (kept_looks network c.replace.new.self c.replace.result c.replace.ensures.kept)

pub returns-in_err-text-in-Err-clause-carries : goal.returns-in_err-text-in-Err-clause-carries
returns-in_err-text-in-Err-clause-carries g c =
    let network = c.args.network.now in
    carries_screens g.D.Disk.sight g.D.Disk.tells (world_of g.S.Sealer.seals network) network c.replace.new.self
    c.replace.ensures.others c.a_call_leaves_what_follows.ensures.rests

pub returns-in_err-text-in-Err-clause-looked : goal.returns-in_err-text-in-Err-clause-looked
returns-in_err-text-in-Err-clause-looked g c =
    let network = c.args.network.now in
    swap_looks c.args.provider c.args.place _ network.looks c.replace.new.self.looks c.replace.result
    c.replace.ensures.looked (kept_looks network c.replace.new.self c.replace.result c.replace.ensures.kept)

pub returns-in-Ok-clause-left : goal.returns-in-Ok-clause-left
returns-in-Ok-clause-left g c =
    let network = c.args.network.now in
    put_leaves g.D.Disk.sight g.D.Counted.faults g.D.Disk.tells (world_of g.S.Sealer.seals network) c.args.provider
    c.args.place (g.J.Judge.spare_patterns c.args.spare) network c.replace.new.self c.replace.ensures.others
    c.replace.result c.replace.ensures.plays tt c.in-Ok.is (map g.J.Judge.spare_patterns c.args.spares.now.items)

pub returns-in-Err-clause-left : goal.returns-in-Err-clause-left
returns-in-Err-clause-left g c =
    let network = c.args.network.now in
    let trade = world_of g.S.Sealer.seals network in
    let spares = map g.J.Judge.spare_patterns c.args.spares.now.items ++ g.J.Judge.spare_patterns c.args.spare ∷ [] in
    let back = popped g.J.Judge.spare_patterns c.push.new.self.items c.args.spares.now.items c.in-Err.spare
    c.in_ok-push-in-Err.ensures.items in
    subst (λ (left : List Patterns). LeavesSpares trade spares (sites network)
    (Screen c.args.provider c.args.place (Some (g.J.Judge.spare_patterns c.args.spare))) left)
    (sym (back ∙ ap (λ (p : Patterns). map g.J.Judge.spare_patterns c.args.spares.now.items ++ p ∷ [])
    (ap g.J.Judge.spare_patterns c.in-Err.ensures.back)))
    (refused_leaves g.D.Disk.sight g.D.Counted.faults g.D.Disk.tells trade c.args.provider
    c.args.place (g.J.Judge.spare_patterns c.args.spare) network c.replace.new.self c.replace.ensures.others
    c.replace.result c.replace.ensures.plays c.in-Err.spare c.in-Err.fault c.in-Err.is spares)
