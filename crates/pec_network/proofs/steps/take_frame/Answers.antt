use Rattle.std.proofs.Common.{◌≡◌, ◌∙◌, [], ◌∷◌, ap, refl, sym, subst}
use Rattle.std.proofs.lemmas.Result.{err_from_is_err_and}
use Rattle.pec_types.specs.Bytes.{Bytes}
use Rattle.pec_types.specs.declared.turns.ProviderFault.TheVariants as faults
use Rattle.pec_plays.specs.Turns.{frames_in}
use Rattle.pec_provider.specs.OfTrades.{world_at}
use Rattle.pec_chronicle.specs.Chronicle.{Stands}
use Rattle.pec_provider.specs.Provider.{desk_of}
use Rattle.pec_network.specs.Turning.{Leads, Waiting}
use Rattle.pec_network.proofs.BreakLemmas.{frame_ends}
use Rattle.pec_network.proofs.FrameLemmas.{none_left}
use Rattle.pec_network.proofs.StepLemmas.{frame_leads, frame_works, frames_rest, genuine_parts, leads_nowhere}
use Rattle.pec_rows.specs.Rows.{waits}
use Rattle.pec_network.proofs.steps.take_frame.Goals as goal

pub returns-in_default-clause-leads : goal.returns-in_default-clause-leads
returns-in_default-clause-leads g c = λ screens.
    let trade = world_at c.args.house.now in
    let Stood = g.D.Disk.tells × Stands g.D.Disk.sight c.args.provider.now.chronicle in
    let same = c.in_default.ensures.left ∙ none_left (waits c.args.takers.now) 1 (c.in_default.ensures.none.0 refl) in
    subst (λ (left : Waiting). Leads Stood trade c.args.house.now.me c.args.moment screens
    (desk_of c.args.provider.now) (waits c.args.takers.now) c.args.events.now.items
    (desk_of c.args.provider.now) left c.args.events.now.items) (sym same)
    (leads_nowhere Stood trade c.args.house.now.me c.args.moment screens (desk_of c.args.provider.now)
    (waits c.args.takers.now) c.args.events.now.items)

pub returns-in_err-reserve-clause-ends : goal.returns-in_err-reserve-clause-ends
returns-in_err-reserve-clause-ends g c = λ screens.
    let p = err_from_is_err_and c.from_residual.result c.from_residual.ensures.1 in
    rw (p.1, p.2, c.in_err-reserve.ensures.items)
    (frame_ends (g.D.Disk.tells × Stands g.D.Disk.sight c.args.provider.now.chronicle) (world_at c.args.house.now)
    c.args.house.now.me c.args.moment screens (desk_of c.args.provider.now) (desk_of c.args.provider.now)
    (waits c.args.takers.now) (waits c.take.new.self) c.args.events.now.items c.in-Some.frame faults.NoMemory
    c.requires.works c.in-Some.ensures.taken c.in-Some.ensures.left (c.requires.works, refl))

pub returns-in_err-reserve-clause-carries : goal.returns-in_err-reserve-clause-carries
returns-in_err-reserve-clause-carries g c = λ tells.
    let trade = world_at c.args.house.now in
    frames_rest g.D.Disk.sight trade c.args.house.now.me c.args.moment c.args.provider.now.chronicle (waits c.args.takers.now)
    (waits c.take.new.self) c.in-Some.frame
    c.in-Some.ensures.taken (c.what_rests_carries_on.ensures tells c.args.provider.now.chronicle)

pub returns-in_err-event-clause-ends : goal.returns-in_err-event-clause-ends
returns-in_err-event-clause-ends g c = λ screens.
    let p = err_from_is_err_and c.from_residual-in_err-event.result c.from_residual-in_err-event.ensures.1 in
    let next : frames_in (waits c.args.takers.now) ≡ c.bytes.result.now ∷ frames_in (waits c.take.new.self) =
    c.in-Some.ensures.taken ∙ ap (λ (f : Bytes). f ∷ frames_in (waits c.take.new.self)) (sym c.bytes.ensures) in
    rw (p.1, p.2, c.in_ok-reserve.ensures.items)
    (frame_ends (g.D.Disk.tells × Stands g.D.Disk.sight c.args.provider.now.chronicle) (world_at c.args.house.now)
    c.args.house.now.me c.args.moment screens (desk_of c.args.provider.now) (desk_of c.arrive.new.self)
    (waits c.args.takers.now) (waits c.take.new.self) c.args.events.now.items c.bytes.result.now
    c.in_err-event.field-0.0 c.requires.works next c.in-Some.ensures.left c.in_err-event.ensures.arrives)

pub returns-in_err-event-clause-carries : goal.returns-in_err-event-clause-carries
returns-in_err-event-clause-carries g c = λ tells journals fit genuine.
    let trade = world_at c.args.house.now in
    let next : frames_in (waits c.args.takers.now) ≡ c.bytes.result.now ∷ frames_in (waits c.take.new.self) =
    c.in-Some.ensures.taken ∙ ap (λ (f : Bytes). f ∷ frames_in (waits c.take.new.self)) (sym c.bytes.ensures) in
    let parts = genuine_parts trade journals (waits c.args.takers.now) (waits c.take.new.self) c.bytes.result.now next genuine in
    (c.in_err-event.ensures.carries tells journals fit parts.0, parts.1)

pub returns-clause-leads : goal.returns-clause-leads
returns-clause-leads g c = λ screens.
    let next : frames_in (waits c.args.takers.now) ≡ c.bytes.result.now ∷ frames_in (waits c.take.new.self) =
    c.in-Some.ensures.taken ∙ ap (λ (f : Bytes). f ∷ frames_in (waits c.take.new.self)) (sym c.bytes.ensures) in
    rw (c.push_reserved.ensures.items, c.in_ok-reserve.ensures.items)
    (frame_leads (g.D.Disk.tells × Stands g.D.Disk.sight c.args.provider.now.chronicle) (world_at c.args.house.now)
    c.args.house.now.me c.args.moment screens (desk_of c.args.provider.now) (desk_of c.arrive.new.self)
    (waits c.args.takers.now) (waits c.take.new.self) c.args.events.now.items c.bytes.result.now c.in_ok-event.event next
    c.in-Some.ensures.left c.in_ok-event.ensures.arrives)

pub returns-clause-works : goal.returns-clause-works
returns-clause-works g c =
    let trade = world_at c.args.house.now in
    frame_works (g.D.Disk.tells × Stands g.D.Disk.sight c.args.provider.now.chronicle) trade c.args.house.now.me
    c.args.moment [] c.a_house_is_a_trade.ensures.trade c.what_a_provider_does_is_its_own.ensures.arrivals
    (desk_of c.args.provider.now) (desk_of c.arrive.new.self) c.bytes.result.now c.in_ok-event.event
    c.in_ok-event.ensures.arrives

pub returns-clause-carries : goal.returns-clause-carries
returns-clause-carries g c = λ tells journals fit genuine.
    let trade = world_at c.args.house.now in
    let next : frames_in (waits c.args.takers.now) ≡ c.bytes.result.now ∷ frames_in (waits c.take.new.self) =
    c.in-Some.ensures.taken ∙ ap (λ (f : Bytes). f ∷ frames_in (waits c.take.new.self)) (sym c.bytes.ensures) in
    let parts = genuine_parts trade journals (waits c.args.takers.now) (waits c.take.new.self) c.bytes.result.now next genuine in
    (c.in_ok-event.ensures.carries tells journals fit parts.0, parts.1)
