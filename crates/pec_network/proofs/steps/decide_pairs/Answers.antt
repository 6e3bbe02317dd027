use Rattle.std.proofs.Common.{[], List, arith, refl, subst, ◌∙◌}
use Rattle.std.proofs.lemmas.Result.{err_from_is_err_and}
use Rattle.pec_provider.specs.OfTrades.{world_at}
use Rattle.pec_chronicle.specs.CarryingLaws.{carries_and_then, carries_nothing}
use Rattle.pec_chronicle.specs.Chronicle.{Stands}
use Rattle.pec_screen.specs.Verdicts.{Patterns}
use Rattle.pec_provider.specs.Following.{MayFollow}
use Rattle.pec_provider.specs.Provider.{desk_of}
use Rattle.pec_network.specs.Turning.{Ends, Leads}
use Rattle.pec_network.proofs.BreakLemmas.{leads_ends}
use Rattle.pec_network.proofs.LookingLemmas.{looked_again, none_looked}
use Rattle.pec_network.proofs.StepLemmas.{leads_nowhere, leads_then}
use Rattle.pec_network.proofs.steps.decide_pairs.Goals as goal

pub loop-init : goal.loop-init
loop-init g c =
    let trade = world_at c.args.house.now in
    let me = c.args.house.now.me in
    record {
      leads = λ left none.
          leads_nowhere (g.D.Disk.tells × Stands g.D.Disk.sight c.args.provider.now.chronicle) trade me c.args.moment
          (g.J.Judge.patterns c.args.judge.now) (desk_of c.args.provider.now) left c.args.events.now.items;
      works = c.requires.works;
      patterns = refl;
      looked = none_looked (g.J.Judge.seen c.args.judge.now) (g.J.Judge.seen c.args.judge.now) refl;
      runs = c.requires.runs;
      carries = λ tells journals.
          carries_nothing g.D.Disk.sight (MayFollow trade journals me) c.args.provider.now.chronicle
          c.args.provider.now.chronicle (c.what_rests_carries_on.ensures tells c.args.provider.now.chronicle);
      later = omega arith;
    }

pub returns-in_err-decide_pair-clause-ends : goal.returns-in_err-decide_pair-clause-ends
returns-in_err-decide_pair-clause-ends g c = λ left none.
    let p = err_from_is_err_and c.from_residual.result c.from_residual.ensures.1 in
    let trade = world_at c.args.house.now in
    let me = c.args.house.now.me in
    let Stood = g.D.Disk.tells × Stands g.D.Disk.sight c.args.provider.now.chronicle in
    let Later = g.D.Disk.tells × Stands g.D.Disk.sight c.loop.provider.chronicle in
    let screens = g.J.Judge.patterns c.args.judge.now in
    rw (p.1, p.2)
    (leads_ends Stood trade me c.args.moment screens Later
    (λ stood. (stood.0, (c.loop.invariant.carries stood.0 (λ provider. [])).stands stood.1))
    c.frames_are_taken_in_order.ensures.more (desk_of c.args.provider.now) (desk_of c.loop.provider)
    (desk_of c.decide_pair.new.provider) left left left c.args.events.now.items c.loop.events.items
    c.decide_pair.new.events.items c.in_err-decide_pair.field-0.0 (c.loop.invariant.leads left none)
    (subst (λ (patterns : List Patterns). Ends Later trade me c.args.moment patterns (desk_of c.loop.provider) left
    c.loop.events.items c.in_err-decide_pair.field-0.0 (desk_of c.decide_pair.new.provider) left
    c.decide_pair.new.events.items) c.loop.invariant.patterns (c.in_err-decide_pair.ensures.ends left none)))

pub returns-in_err-decide_pair-clause-looked : goal.returns-in_err-decide_pair-clause-looked
returns-in_err-decide_pair-clause-looked g c =
    looked_again (g.J.Judge.seen c.args.judge.now) (g.J.Judge.seen c.loop.judge)
    (g.J.Judge.seen c.decide_pair.new.judge) c.loop.invariant.looked c.in_err-decide_pair.ensures.looked

pub returns-in_err-decide_pair-clause-carries : goal.returns-in_err-decide_pair-clause-carries
returns-in_err-decide_pair-clause-carries g c = λ tells journals.
    carries_and_then g.D.Disk.sight (MayFollow
    (world_at c.args.house.now) journals
    c.args.house.now.me)
    c.args.provider.now.chronicle c.loop.provider.chronicle c.decide_pair.new.provider.chronicle
    (c.loop.invariant.carries tells journals) (c.in_err-decide_pair.ensures.carries tells journals)

pub loop-preserved : goal.loop-preserved
loop-preserved g c =
    let trade = world_at c.args.house.now in
    let me = c.args.house.now.me in
    let Stood = g.D.Disk.tells × Stands g.D.Disk.sight c.args.provider.now.chronicle in
    let Later = g.D.Disk.tells × Stands g.D.Disk.sight c.loop.provider.chronicle in
    let screens = g.J.Judge.patterns c.args.judge.now in
    record {
      leads = λ left none.
          leads_then Stood trade me c.args.moment screens Later
          (λ stood. (stood.0, (c.loop.invariant.carries stood.0 (λ provider. [])).stands stood.1))
          c.frames_are_taken_in_order.ensures.more (desk_of c.args.provider.now) (desk_of c.loop.provider)
          (desk_of c.decide_pair.new.provider) left left left c.args.events.now.items c.loop.events.items
          c.decide_pair.new.events.items (c.loop.invariant.leads left none)
          (subst (λ (patterns : List Patterns). Leads Later trade me c.args.moment patterns (desk_of c.loop.provider)
          left c.loop.events.items (desk_of c.decide_pair.new.provider) left c.decide_pair.new.events.items)
          c.loop.invariant.patterns (c.in_ok-decide_pair.ensures.leads left none));
      works = c.in_ok-decide_pair.ensures.works;
      patterns = c.in_ok-decide_pair.ensures.patterns ∙ c.loop.invariant.patterns;
      looked = looked_again (g.J.Judge.seen c.args.judge.now) (g.J.Judge.seen c.loop.judge)
          (g.J.Judge.seen c.decide_pair.new.judge) c.loop.invariant.looked c.in_ok-decide_pair.ensures.looked;
      runs = c.in_ok-decide_pair.ensures.runs;
      carries = λ tells journals.
          carries_and_then g.D.Disk.sight (MayFollow trade journals me)
          c.args.provider.now.chronicle c.loop.provider.chronicle c.decide_pair.new.provider.chronicle
          (c.loop.invariant.carries tells journals) (c.in_ok-decide_pair.ensures.carries tells journals);
      later = omega (arith, c.loop.invariant.later, c.in_ok-decide_pair.ensures.later);
    }

pub returns-clause-leads : goal.returns-clause-leads
returns-clause-leads g c = λ left none.
    let trade = world_at c.args.house.now in
    let me = c.args.house.now.me in
    let Later = g.D.Disk.tells × Stands g.D.Disk.sight c.loop.provider.chronicle in
    leads_then (g.D.Disk.tells × Stands g.D.Disk.sight c.args.provider.now.chronicle) trade me c.args.moment
    (g.J.Judge.patterns c.args.judge.now) Later
    (λ stood. (stood.0, (c.loop.invariant.carries stood.0 (λ provider. [])).stands stood.1))
    c.frames_are_taken_in_order.ensures.more (desk_of c.args.provider.now) (desk_of c.loop.provider)
    (desk_of c.decide_pair.new.provider) left left left c.args.events.now.items c.loop.events.items
    c.decide_pair.new.events.items (c.loop.invariant.leads left none)
    (subst (λ (patterns : List Patterns). Leads Later trade me c.args.moment patterns (desk_of c.loop.provider)
    left c.loop.events.items (desk_of c.decide_pair.new.provider) left c.decide_pair.new.events.items)
    c.loop.invariant.patterns (c.in_ok-decide_pair.ensures.leads left none))

pub returns-clause-looked : goal.returns-clause-looked
returns-clause-looked g c =
    looked_again (g.J.Judge.seen c.args.judge.now) (g.J.Judge.seen c.loop.judge)
    (g.J.Judge.seen c.decide_pair.new.judge) c.loop.invariant.looked c.in_ok-decide_pair.ensures.looked

pub returns-clause-carries : goal.returns-clause-carries
returns-clause-carries g c = λ tells journals.
    carries_and_then g.D.Disk.sight (MayFollow
    (world_at c.args.house.now) journals
    c.args.house.now.me)
    c.args.provider.now.chronicle c.loop.provider.chronicle c.decide_pair.new.provider.chronicle
    (c.loop.invariant.carries tells journals) (c.in_ok-decide_pair.ensures.carries tells journals)
