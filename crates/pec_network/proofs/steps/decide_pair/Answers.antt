use Rattle.std.proofs.lemmas.Result.{err_from_is_err_and}
use Rattle.pec_provider.specs.OfTrades.{world_at}
use Rattle.pec_chronicle.specs.Chronicle.{Stands}
use Rattle.pec_plays.specs.Decisions.{undecided}
use Rattle.pec_provider.specs.Provider.{desk_of}
use Rattle.pec_provider.specs.Reading.{EnvelopeIsChanged}
use Rattle.pec_network.proofs.BreakLemmas.{memory_ends, none_changed_by, pair_ends}
use Rattle.pec_network.proofs.LookingLemmas.{looked_next}
use Rattle.pec_network.proofs.StepLemmas.{nothing_leads, pair_leads, pair_works}
use Rattle.pec_network.proofs.steps.decide_pair.Goals as goal

pub returns-in_err-reserve-clause-ends : goal.returns-in_err-reserve-clause-ends
returns-in_err-reserve-clause-ends g c = λ left none.
    let p = err_from_is_err_and c.from_residual.result c.from_residual.ensures.1 in
    rw (p.1, p.2, c.in_err-reserve.ensures.items)
    (memory_ends (g.D.Disk.tells × Stands g.D.Disk.sight c.args.provider.now.chronicle) (world_at c.args.house.now)
    c.args.house.now.me c.args.moment (g.J.Judge.patterns c.args.judge.now) (desk_of c.args.provider.now) left
    c.args.events.now.items)

pub returns-in_err-event-clause-ends : goal.returns-in_err-event-clause-ends
returns-in_err-event-clause-ends g c = λ left none.
    let p = err_from_is_err_and c.from_residual-in_err-event.result c.from_residual-in_err-event.ensures.1 in
    let trade = world_at c.args.house.now in
    let by = c.in_err-event.ensures.decides in
    rw (p.1, p.2, c.in_ok-reserve.ensures.items)
    (pair_ends (g.D.Disk.tells × Stands g.D.Disk.sight c.args.provider.now.chronicle) trade
    c.args.house.now.me c.args.moment (g.J.Judge.patterns c.args.judge.now) c.a_plan_goes_step_by_step.ensures.pairs
    by.found (desk_of c.args.provider.now) (desk_of c.decide_next.new.self) left c.args.events.now.items
    c.in_err-event.field-0.0 c.requires.works none by.finds
    (λ stood. none_changed_by trade c.args.house.now.me (EnvelopeIsChanged trade c.args.house.now.me)
    (λ journals fit. c.nothing_has_changed.ensures.envelopes trade c.a_house_is_a_trade.ensures.trade journals fit
    c.args.house.now.me)
    c.args.provider.now.chronicle.entries c.in_err-event.field-0.0 (c.in_err-event.ensures.changed stood.0 stood.1))
    by.decides)

pub returns-in_err-event-clause-looked : goal.returns-in_err-event-clause-looked
returns-in_err-event-clause-looked g c =
    looked_next (world_at c.args.house.now) c.args.house.now.me
    (undecided (world_at c.args.house.now) c.args.house.now.me c.args.provider.now.chronicle.entries)
    c.decide_next.new.self.chronicle.interrupted (g.J.Judge.seen c.args.judge.now)
    (g.J.Judge.seen c.decide_next.new.screens) c.decide_next.result c.decide_next.ensures.looked

pub returns-in_default-clause-leads : goal.returns-in_default-clause-leads
returns-in_default-clause-leads g c = λ left none.
    let by = c.in_ok-event.ensures.decides in
    rw c.in_ok-reserve.ensures.items
    (nothing_leads (g.D.Disk.tells × Stands g.D.Disk.sight c.args.provider.now.chronicle) (world_at c.args.house.now)
    c.args.house.now.me c.args.moment (g.J.Judge.patterns c.args.judge.now) by.found (desk_of c.args.provider.now)
    (desk_of c.decide_next.new.self) left c.args.events.now.items (rw c.in_default.is at by.decides))

pub returns-in_default-clause-looked : goal.returns-in_default-clause-looked
returns-in_default-clause-looked g c =
    looked_next (world_at c.args.house.now) c.args.house.now.me
    (undecided (world_at c.args.house.now) c.args.house.now.me c.args.provider.now.chronicle.entries)
    c.decide_next.new.self.chronicle.interrupted (g.J.Judge.seen c.args.judge.now)
    (g.J.Judge.seen c.decide_next.new.screens) c.decide_next.result c.decide_next.ensures.looked

pub returns-clause-looked : goal.returns-clause-looked
returns-clause-looked g c =
    looked_next (world_at c.args.house.now) c.args.house.now.me
    (undecided (world_at c.args.house.now) c.args.house.now.me c.args.provider.now.chronicle.entries)
    c.decide_next.new.self.chronicle.interrupted (g.J.Judge.seen c.args.judge.now)
    (g.J.Judge.seen c.decide_next.new.screens) c.decide_next.result c.decide_next.ensures.looked

pub returns-clause-leads : goal.returns-clause-leads
returns-clause-leads g c = λ left none.
    let by = c.in_ok-event.ensures.decides in
    rw (c.push_reserved.ensures.items, c.in_ok-reserve.ensures.items)
    (pair_leads (g.D.Disk.tells × Stands g.D.Disk.sight c.args.provider.now.chronicle) (world_at c.args.house.now)
    c.args.house.now.me c.args.moment (g.J.Judge.patterns c.args.judge.now) c.a_plan_goes_step_by_step.ensures.pairs
    by.found (desk_of c.args.provider.now) (desk_of c.decide_next.new.self) left c.args.events.now.items
    c.in-Some.event none by.finds (rw c.in-Some.is at by.decides))

pub returns-clause-works : goal.returns-clause-works
returns-clause-works g c =
    let by = c.in_ok-event.ensures.decides in
    pair_works (g.D.Disk.tells × Stands g.D.Disk.sight c.args.provider.now.chronicle) (world_at c.args.house.now)
    c.args.house.now.me c.args.moment (g.J.Judge.patterns c.args.judge.now)
    c.what_a_provider_does_is_its_own.ensures.decisions by.found
    (desk_of c.args.provider.now) (desk_of c.decide_next.new.self) c.in-Some.event (rw c.in-Some.is at by.decides)
