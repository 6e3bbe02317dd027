use Rattle.std.proofs.Common.{◌≡◌, ◌∙◌, ◌<◌, ℕ, List, [], Some, ap, arith, get_or, length, refl, set, subst, sym}
use Rattle.std.specs.Prelude.{IfErr, not}
use Rattle.std.proofs.lemmas.List.{length-map, length-set}
use Rattle.std.proofs.lemmas.Result.{on_err_weaker, on_ok_weaker}
use Rattle.pec_plays.specs.Commands.{Screen, played}
use Rattle.pec_provider.specs.Provider.{ProviderState}
use Rattle.pec_provider.specs.Swapping.{IsUnswapped}
use Rattle.pec_screen.specs.Perhaps.{all_of}
use Rattle.pec_screen.specs.Verdicts.{Patterns}
use Rattle.pec_screen.specs.declared.perhaps.Perhaps.{Perhaps}
use Rattle.pec_network.specs.Judging.{lists_of}
use Rattle.pec_network.specs.Network.{IsOfDirectory, sites_of}
use Rattle.pec_network.specs.Playing.{IsSwapped}
use Rattle.pec_network.proofs.ChangeLemmas.{number_within}
use Rattle.pec_network.proofs.JudgeLemmas.{list_at, lists_same, lists_set}
use Rattle.pec_network.proofs.SwapLemmas.{both_err, same_place, same_state, swapped_so}
use Rattle.pec_network.proofs.network.Network.replace.Goals as goal

pub index_mut-screens-requires : goal.index_mut-screens-requires
index_mut-screens-requires g c =
    let within = number_within _ c.args.self.now c.self.view_is c.self.invariant.0 c.args.provider c.requires in
    let many = c.self.invariant.1 in
    let count = c.self.invariant.0.count in
    let size = c.self.inside.judges.ok.0 in
    omega arith

pub index_mut-requires : goal.index_mut-requires
index_mut-requires g c =
    let within = number_within _ c.args.self.now c.self.view_is c.self.invariant.0 c.args.provider c.requires in
    let size = c.self.inside.providers.ok.0 in
    omega arith

pub invariant_of-self : goal.invariant_of-self
invariant_of-self g c =
    let within = number_within _ c.args.self.now c.self.view_is c.self.invariant.0 c.args.provider c.requires in
    let judges = c.self.inside.judges.items in
    let inside : c.args.provider < length judges =
    (let many = c.self.invariant.1 in let count = c.self.invariant.0.count in omega arith) in
    let old = c.index_mut-screens.result.now in
    let new = c.replace.new.screens in
    let providers = c.self.inside.providers.items in
    let stays : set providers c.args.provider c.replace.new.self ≡ providers =
    same_place providers c.args.provider c.index_mut.result.now c.replace.new.self c.index_mut.ensures.value
    c.replace.ensures.stays in (
      subst (λ (l : List (ProviderState g.row.D.Denot)). IsOfDirectory c.self.inside.directory
          (g.S.Sealer.seals c.self.inside.sealer) l c.self.inside.arrivals.items) (sym stays) c.self.invariant.0,
      length-set judges c.args.provider new ∙ c.self.invariant.1,
    )

pub returns-clause-plays : goal.returns-clause-plays
returns-clause-plays g c = λ trade luck.
    let within = number_within _ c.args.self.now c.self.view_is c.self.invariant.0 c.args.provider c.requires in
    let judges = c.self.inside.judges.items in
    let inside : c.args.provider < length judges =
    (let many = c.self.invariant.1 in let count = c.self.invariant.0.count in omega arith) in
    let old = c.index_mut-screens.result.now in
    let new = c.replace.new.screens in
    let providers = c.self.inside.providers.items in
    let stays : set providers c.args.provider c.replace.new.self ≡ providers =
    same_place providers c.args.provider c.index_mut.result.now c.replace.new.self c.index_mut.ensures.value
    c.replace.ensures.stays in
    let screens = lists_of g.J.Judge.patterns judges in
    let after = lists_of g.J.Judge.patterns (set judges c.args.provider new) in
    let spare = g.J.Judge.spare_patterns c.args.spare in
    let boxes : get_or screens c.args.provider [] ≡ all_of g.J.Judge.patterns old.judge =
    list_at g.J.Judge.patterns judges c.args.provider old new inside c.index_mut-screens.ensures.value in
    let all = sites_of providers screens c.self.inside.arrivals.items in
    let play = played trade luck all (Screen c.args.provider c.args.place (Some spare)) in
    rw (← c.self.view_is)
    (subst (λ (l : List (ProviderState g.row.D.Denot)). IsSwapped play all
    (sites_of l after c.self.inside.arrivals.items) c.replace.result) (sym stays)
    (swapped_so trade luck providers screens c.self.inside.arrivals.items c.args.provider c.args.place
    c.index_mut.result.now spare within c.index_mut.ensures.value
    (omega (arith, inside, length-map judges (λ (p : Perhaps g.row.J.Denot). all_of g.J.Judge.patterns p.judge)))
    after c.replace.result
    (on_ok_weaker c.replace.result
    (λ done. (done.0, subst (λ (b : List Patterns). c.args.place < length b) (sym boxes) done.1)) c.replace.ensures.replaced)
    (on_ok_weaker c.replace.result
    (λ put. lists_set g.J.Judge.patterns judges c.args.provider old new inside c.index_mut-screens.ensures.value
    ∙ ap (λ (b : List Patterns). set screens c.args.provider b)
    (put ∙ ap (λ (b : List Patterns). set b c.args.place spare) (sym boxes))) c.replace.ensures.patterns)
    (subst (λ (b : List Patterns). IfErr c.replace.result (λ refusal.
    IsUnswapped (not c.index_mut.result.now.chronicle.down) (length b) c.args.place refusal.1)) (sym boxes)
    c.replace.ensures.refused)
    (on_err_weaker c.replace.result
    (λ kept. lists_same g.J.Judge.patterns judges c.args.provider old new inside c.index_mut-screens.ensures.value kept)
    c.replace.ensures.kept)))

pub returns-clause-looked : goal.returns-clause-looked
returns-clause-looked g c =
    let within = number_within _ c.args.self.now c.self.view_is c.self.invariant.0 c.args.provider c.requires in
    let judges = c.self.inside.judges.items in
    let inside : c.args.provider < length judges =
    (let many = c.self.invariant.1 in let count = c.self.invariant.0.count in omega arith) in
    let old = c.index_mut-screens.result.now in
    let new = c.replace.new.screens in
    let providers = c.self.inside.providers.items in
    let stays : set providers c.args.provider c.replace.new.self ≡ providers =
    same_place providers c.args.provider c.index_mut.result.now c.replace.new.self c.index_mut.ensures.value
    c.replace.ensures.stays in
    let looks = lists_of g.J.Judge.seen judges in
    let counts : get_or looks c.args.provider [] ≡ all_of g.J.Judge.seen old.judge =
    list_at g.J.Judge.seen judges c.args.provider old new inside c.index_mut-screens.ensures.value in
    rw (← c.self.view_is)
    (on_ok_weaker c.replace.result
    (λ put. lists_set g.J.Judge.seen judges c.args.provider old new inside c.index_mut-screens.ensures.value
    ∙ ap (λ (l : List ℕ). set looks c.args.provider l)
    (put ∙ ap (λ (l : List ℕ). set l c.args.place (g.J.Judge.spare_seen c.args.spare)) (sym counts)))
    c.replace.ensures.seen)

pub returns-clause-others : goal.returns-clause-others
returns-clause-others g c =
    let within = number_within _ c.args.self.now c.self.view_is c.self.invariant.0 c.args.provider c.requires in
    let judges = c.self.inside.judges.items in
    let inside : c.args.provider < length judges =
    (let many = c.self.invariant.1 in let count = c.self.invariant.0.count in omega arith) in
    let old = c.index_mut-screens.result.now in
    let new = c.replace.new.screens in
    let providers = c.self.inside.providers.items in
    let stays : set providers c.args.provider c.replace.new.self ≡ providers =
    same_place providers c.args.provider c.index_mut.result.now c.replace.new.self c.index_mut.ensures.value
    c.replace.ensures.stays in
    rw (← c.self.view_is)
    (same_state c.self.inside.directory c.self.inside.sealer c.self.inside.arrivals.items _ _ _ _ _ _ stays refl refl)

pub returns-clause-kept : goal.returns-clause-kept
returns-clause-kept g c =
    let within = number_within _ c.args.self.now c.self.view_is c.self.invariant.0 c.args.provider c.requires in
    let judges = c.self.inside.judges.items in
    let inside : c.args.provider < length judges =
    (let many = c.self.invariant.1 in let count = c.self.invariant.0.count in omega arith) in
    let old = c.index_mut-screens.result.now in
    let new = c.replace.new.screens in
    let providers = c.self.inside.providers.items in
    let stays : set providers c.args.provider c.replace.new.self ≡ providers =
    same_place providers c.args.provider c.index_mut.result.now c.replace.new.self c.index_mut.ensures.value
    c.replace.ensures.stays in
    rw (← c.self.view_is)
    (on_err_weaker c.replace.result
    (λ kept. same_state c.self.inside.directory c.self.inside.sealer c.self.inside.arrivals.items _ _ _ _ _ _ stays
    (lists_same g.J.Judge.patterns judges c.args.provider old new inside c.index_mut-screens.ensures.value kept.0)
    (lists_same g.J.Judge.seen judges c.args.provider old new inside c.index_mut-screens.ensures.value kept.1))
    (both_err (all_of g.J.Judge.patterns new.judge ≡ all_of g.J.Judge.patterns old.judge)
    (all_of g.J.Judge.seen new.judge ≡ all_of g.J.Judge.seen old.judge) c.replace.result c.replace.ensures.kept
    c.replace.ensures.still))
