use Rattle.std.proofs.Common.{ℕ, Ok, refl, subst, sym, ◌∙◌}
use Rattle.pec_types.specs.declared.turns.Event.{Event}
use Rattle.pec_types.specs.declared.turns.ProviderFault.TheVariants as faults
use Rattle.pec_plays.specs.Reception.{arrive}
use Rattle.pec_reception.specs.OfTrades.{trade_of, world_at}
use Rattle.pec_reception.specs.Shows.{Shows}
use Rattle.pec_provider.specs.Provider.{desk_of}
use Rattle.pec_provider.specs.Working.{Does}
use Rattle.pec_provider.proofs.FollowLemmas.{carries_any, carries_still}
use Rattle.pec_provider.proofs.RunLemmas.{half_inside, me_runs}
use Rattle.pec_provider.proofs.StepLemmas.{arrive_so}
use Rattle.pec_provider.proofs.TurnLemmas.{does_handed, idles_handed, step_may, works_step}
use Rattle.pec_provider.proofs.provider.Provider.arrive.Goals as goal

pub returns-in_err-at_work-clause-arrives : goal.returns-in_err-at_work-clause-arrives
returns-in_err-at_work-clause-arrives g c =
    let kept = c.args.house.now.directory.now in
    let me = c.args.house.now.me in
    let trade = trade_of kept (g.S.Sealer.seals c.args.house.now.sealer.now) in
    let of = c.a_house_is_a_trade.ensures.of in
    let journal = c.args.self.now.chronicle.entries in
    let desk = desk_of c.args.self.now in
    idles_handed Event Event trade me c.args.moment (Does (arrive trade me c.args.moment journal c.args.frame.now) desk
    desk) desk
    c.in_err-at_work.field-0.0 c.from_residual.result c.from_residual.ensures.1
    (c.in_err-at_work.ensures.works kept (g.S.Sealer.seals c.args.house.now.sealer.now) me trade c.requires.runs of)

pub returns-in_err-at_work-clause-carries : goal.returns-in_err-at_work-clause-carries
returns-in_err-at_work-clause-carries g c = λ tells journals fit genuine.
    carries_still g.D.Disk.sight (world_at c.args.house.now) journals
    c.args.house.now.me _ c.args.self.now c.self.view_is (c.stands_still.ensures tells)

pub undertake-requires-clause-step : goal.undertake-requires-clause-step
undertake-requires-clause-step g c =
    let kept = c.args.house.now.directory.now in
    let me = c.args.house.now.me in
    let trade = trade_of kept (g.S.Sealer.seals c.args.house.now.sealer.now) in
    let of = c.a_house_is_a_trade.ensures.of in
    let journal = c.args.self.now.chronicle.entries in
    let shows = subst (λ (n : ℕ). Shows c.in_ok-received.received
    (arrive trade n c.args.moment journal c.args.frame.now))
    (me_runs kept me _ c.args.self.now c.self.view_is c.requires.runs)
    (c.in_ok-received.ensures.exact journal (half_inside kept me _ c.args.self.now c.self.view_is trade c.requires.runs
    of)) in
    let works = c.in_ok-at_work.ensures.works kept (g.S.Sealer.seals c.args.house.now.sealer.now) me trade c.requires.runs of in
    step_may kept me c.args.moment trade journal (arrive trade me c.args.moment journal c.args.frame.now)
    c.in_ok-received.received.entry of shows.0
    works.in_time
    (λ e is. c.what_a_provider_does_is_its_own.ensures.arrivals trade
    c.a_house_is_a_trade.ensures.trade me c.args.moment journal
    c.args.frame.now e is)

pub returns-in_err-event-clause-arrives : goal.returns-in_err-event-clause-arrives
returns-in_err-event-clause-arrives g c =
    let kept = c.args.house.now.directory.now in
    let me = c.args.house.now.me in
    let trade = trade_of kept (g.S.Sealer.seals c.args.house.now.sealer.now) in
    let of = c.a_house_is_a_trade.ensures.of in
    let journal = c.args.self.now.chronicle.entries in
    let shows = subst (λ (n : ℕ). Shows c.in_ok-received.received
    (arrive trade n c.args.moment journal c.args.frame.now))
    (me_runs kept me _ c.args.self.now c.self.view_is c.requires.runs)
    (c.in_ok-received.ensures.exact journal (half_inside kept me _ c.args.self.now c.self.view_is trade c.requires.runs
    of)) in
    let old = desk_of c.args.self.now in
    let new = desk_of c.undertake.new.self in
    let step = arrive trade me c.args.moment journal c.args.frame.now in
    works_step trade me c.args.moment old new step c.from_residual-in_err-event.result
    (c.in_ok-at_work.ensures.works kept (g.S.Sealer.seals c.args.house.now.sealer.now) me trade c.requires.runs of)
    (does_handed step old new c.in_err-event.field-0.0 c.from_residual-in_err-event.result
    c.from_residual-in_err-event.ensures.1
    (c.in_err-event.ensures.does trade step of
    (record { shows = shows; full = arrive_so trade me c.args.moment journal c.args.frame.now })))

pub returns-in_err-event-clause-carries : goal.returns-in_err-event-clause-carries
returns-in_err-event-clause-carries g c = λ tells journals fit genuine.
    let kept = c.args.house.now.directory.now in
    let me = c.args.house.now.me in
    let trade = trade_of kept (g.S.Sealer.seals c.args.house.now.sealer.now) in
    let of = c.a_house_is_a_trade.ensures.of in
    let journal = c.args.self.now.chronicle.entries in
    let shows = subst (λ (n : ℕ). Shows c.in_ok-received.received
    (arrive trade n c.args.moment journal c.args.frame.now))
    (me_runs kept me _ c.args.self.now c.self.view_is c.requires.runs)
    (c.in_ok-received.ensures.exact journal (half_inside kept me _ c.args.self.now c.self.view_is trade c.requires.runs
    of)) in
    let works = c.in_ok-at_work.ensures.works kept (g.S.Sealer.seals c.args.house.now.sealer.now) me trade c.requires.runs of in
    carries_any g.D.Disk.sight trade journals me c.args.self.now.chronicle c.undertake.new.self.chronicle
    c.in_ok-received.received.entry
    (λ e is. c.what_a_provider_does_may_follow.ensures.arrivals trade
    c.a_house_is_a_trade.ensures.trade journals fit me
    c.args.moment journal works.in_time c.at_work.ensures.in_range c.args.frame.now genuine e (sym shows.0 ∙ is))
    (c.undertake.ensures.carries tells)

pub returns-clause-arrives : goal.returns-clause-arrives
returns-clause-arrives g c =
    let kept = c.args.house.now.directory.now in
    let me = c.args.house.now.me in
    let trade = trade_of kept (g.S.Sealer.seals c.args.house.now.sealer.now) in
    let of = c.a_house_is_a_trade.ensures.of in
    let journal = c.args.self.now.chronicle.entries in
    let shows = subst (λ (n : ℕ). Shows c.in_ok-received.received
    (arrive trade n c.args.moment journal c.args.frame.now))
    (me_runs kept me _ c.args.self.now c.self.view_is c.requires.runs)
    (c.in_ok-received.ensures.exact journal (half_inside kept me _ c.args.self.now c.self.view_is trade c.requires.runs
    of)) in
    let step = arrive trade me c.args.moment journal c.args.frame.now in
    works_step trade me c.args.moment (desk_of c.args.self.now) (desk_of c.undertake.new.self) step
    (Ok c.in_ok-event.event)
    (c.in_ok-at_work.ensures.works kept (g.S.Sealer.seals c.args.house.now.sealer.now) me trade c.requires.runs of)
    (c.in_ok-event.ensures.does trade step of
    (record { shows = shows; full = arrive_so trade me c.args.moment journal c.args.frame.now }))

pub returns-clause-carries : goal.returns-clause-carries
returns-clause-carries g c = λ tells journals fit genuine.
    let kept = c.args.house.now.directory.now in
    let me = c.args.house.now.me in
    let trade = trade_of kept (g.S.Sealer.seals c.args.house.now.sealer.now) in
    let of = c.a_house_is_a_trade.ensures.of in
    let journal = c.args.self.now.chronicle.entries in
    let shows = subst (λ (n : ℕ). Shows c.in_ok-received.received
    (arrive trade n c.args.moment journal c.args.frame.now))
    (me_runs kept me _ c.args.self.now c.self.view_is c.requires.runs)
    (c.in_ok-received.ensures.exact journal (half_inside kept me _ c.args.self.now c.self.view_is trade c.requires.runs
    of)) in
    let works = c.in_ok-at_work.ensures.works kept (g.S.Sealer.seals c.args.house.now.sealer.now) me trade c.requires.runs of in
    carries_any g.D.Disk.sight trade journals me c.args.self.now.chronicle c.undertake.new.self.chronicle
    c.in_ok-received.received.entry
    (λ e is. c.what_a_provider_does_may_follow.ensures.arrivals trade
    c.a_house_is_a_trade.ensures.trade journals fit me
    c.args.moment journal works.in_time c.at_work.ensures.in_range c.args.frame.now genuine e (sym shows.0 ∙ is))
    (c.undertake.ensures.carries tells)

pub returns-in_err-event-clause-stands : goal.returns-in_err-event-clause-stands
returns-in_err-event-clause-stands g c = λ tells stands. (c.undertake.ensures.carries tells).stands stands

pub returns-clause-stands : goal.returns-clause-stands
returns-clause-stands g c = λ tells stands. (c.undertake.ensures.carries tells).stands stands

pub returns-in_err-received-clause-arrives : goal.returns-in_err-received-clause-arrives
returns-in_err-received-clause-arrives g c =
    let kept = c.args.house.now.directory.now in
    let seals = g.S.Sealer.seals c.args.house.now.sealer.now in
    let me = c.args.house.now.me in
    let trade = trade_of kept seals in
    let desk = desk_of c.args.self.now in
    let step = arrive trade me c.args.moment c.args.self.now.chronicle.entries c.args.frame.now in
    let answer = c.from_residual-in_err-received.result in
    works_step trade me c.args.moment desk desk step answer
    (c.in_ok-at_work.ensures.works kept seals me trade c.requires.runs c.a_house_is_a_trade.ensures.of)
    (does_handed step desk desk faults.NoMemory answer c.from_residual-in_err-received.ensures.1 refl)
