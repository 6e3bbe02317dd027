use Rattle.std.proofs.Common.{[], refl}
use Rattle.std.proofs.lemmas.Result.{err_from_is_err_and}
use Rattle.pec_provider.specs.OfTrades.{world_at}
use Rattle.pec_chronicle.specs.Chronicle.{Stands}
use Rattle.pec_provider.specs.Provider.{desk_of}
use Rattle.pec_network.proofs.BreakLemmas.{leads_ends}
use Rattle.pec_network.proofs.LookingLemmas.{none_looked}
use Rattle.pec_network.proofs.StepLemmas.{frames_then_pairs, leads_then}
use Rattle.pec_rows.specs.Rows.{waits}
use Rattle.pec_network.proofs.turns.take_steps.Goals as goal

pub returns-in_err-decide_pairs-clause-carries : goal.returns-in_err-decide_pairs-clause-carries
returns-in_err-decide_pairs-clause-carries g c = λ tells.
    frames_then_pairs g.D.Disk.sight (world_at c.args.house.now)
    c.args.house.now.me c.args.moment c.args.provider.now.chronicle c.take_frames.new.provider.chronicle
    c.decide_pairs.new.provider.chronicle
    (waits c.args.takers.now) (waits c.take_frames.new.takers) (c.in_ok-take_frames.ensures.carries tells)
    (c.in_err-decide_pairs.ensures.carries tells)

pub returns-clause-carries : goal.returns-clause-carries
returns-clause-carries g c = λ tells.
    frames_then_pairs g.D.Disk.sight (world_at c.args.house.now)
    c.args.house.now.me c.args.moment c.args.provider.now.chronicle c.take_frames.new.provider.chronicle
    c.decide_pairs.new.provider.chronicle
    (waits c.args.takers.now) (waits c.take_frames.new.takers) (c.in_ok-take_frames.ensures.carries tells)
    (c.in_ok-decide_pairs.ensures.carries tells)

pub returns-in_err-decide_pairs-clause-stands : goal.returns-in_err-decide_pairs-clause-stands
returns-in_err-decide_pairs-clause-stands g c = λ tells stands.
    (c.in_err-decide_pairs.ensures.carries tells (λ provider. [])).stands
    (c.in_ok-take_frames.ensures.stands tells stands)

pub returns-clause-stands : goal.returns-clause-stands
returns-clause-stands g c = λ tells stands.
    (c.in_ok-decide_pairs.ensures.carries tells (λ provider. [])).stands
    (c.in_ok-take_frames.ensures.stands tells stands)

pub returns-in_err-take_frames-clause-ends : goal.returns-in_err-take_frames-clause-ends
returns-in_err-take_frames-clause-ends g c =
    let p = err_from_is_err_and c.from_residual.result c.from_residual.ensures.1 in
    rw (p.1, p.2) (c.in_err-take_frames.ensures.ends (g.J.Judge.patterns c.args.judge.now))

pub returns-in_err-decide_pairs-clause-ends : goal.returns-in_err-decide_pairs-clause-ends
returns-in_err-decide_pairs-clause-ends g c =
    let p = err_from_is_err_and c.from_residual-in_err-decide_pairs.result c.from_residual-in_err-decide_pairs.ensures.1 in
    let screens = g.J.Judge.patterns c.args.judge.now in
    rw (p.1, p.2)
    (leads_ends (g.D.Disk.tells × Stands g.D.Disk.sight c.args.provider.now.chronicle) (world_at c.args.house.now)
    c.args.house.now.me c.args.moment screens
    (g.D.Disk.tells × Stands g.D.Disk.sight c.take_frames.new.provider.chronicle)
    (λ stood. (stood.0, c.in_ok-take_frames.ensures.stands stood.0 stood.1)) c.frames_are_taken_in_order.ensures.more
    (desk_of c.args.provider.now) (desk_of c.take_frames.new.provider) (desk_of c.decide_pairs.new.provider)
    (waits c.args.takers.now) (waits c.take_frames.new.takers) (waits c.take_frames.new.takers)
    c.args.events.now.items c.take_frames.new.events.items c.decide_pairs.new.events.items
    c.in_err-decide_pairs.field-0.0 (c.in_ok-take_frames.ensures.leads screens)
    (c.in_err-decide_pairs.ensures.ends (waits c.take_frames.new.takers) c.in_ok-take_frames.ensures.none))

pub returns-clause-leads : goal.returns-clause-leads
returns-clause-leads g c =
    let screens = g.J.Judge.patterns c.args.judge.now in
    leads_then (g.D.Disk.tells × Stands g.D.Disk.sight c.args.provider.now.chronicle) (world_at c.args.house.now)
    c.args.house.now.me c.args.moment screens
    (g.D.Disk.tells × Stands g.D.Disk.sight c.take_frames.new.provider.chronicle)
    (λ stood. (stood.0, c.in_ok-take_frames.ensures.stands stood.0 stood.1)) c.frames_are_taken_in_order.ensures.more
    (desk_of c.args.provider.now) (desk_of c.take_frames.new.provider) (desk_of c.decide_pairs.new.provider)
    (waits c.args.takers.now) (waits c.take_frames.new.takers) (waits c.take_frames.new.takers)
    c.args.events.now.items c.take_frames.new.events.items c.decide_pairs.new.events.items
    (c.in_ok-take_frames.ensures.leads screens)
    (c.in_ok-decide_pairs.ensures.leads (waits c.take_frames.new.takers) c.in_ok-take_frames.ensures.none)

pub returns-in_err-take_frames-clause-looked : goal.returns-in_err-take_frames-clause-looked
returns-in_err-take_frames-clause-looked g c =
    none_looked (g.J.Judge.seen c.args.judge.now) (g.J.Judge.seen c.args.judge.now) refl
