use Rattle.std.proofs.Common.{◌∙◌, arith, refl}
use Rattle.std.proofs.lemmas.Result.{err_from_is_err_and}
use Rattle.pec_provider.specs.OfTrades.{world_at}
use Rattle.pec_chronicle.specs.CarryingLaws.{carries_nothing}
use Rattle.pec_chronicle.specs.Chronicle.{Stands}
use Rattle.pec_provider.specs.Following.{MayFollow}
use Rattle.pec_provider.specs.Provider.{desk_of}
use Rattle.pec_network.proofs.BreakLemmas.{leads_ends}
use Rattle.pec_network.proofs.StepLemmas.{frames_and_then, leads_nowhere, leads_then}
use Rattle.pec_rows.specs.Rows.{waits}
use Rattle.pec_network.proofs.steps.take_frames.Goals as goal

pub loop-init : goal.loop-init
loop-init g c =
    let trade = world_at c.args.house.now in
    let me = c.args.house.now.me in
    record {
      leads = λ screens.
          leads_nowhere (g.D.Disk.tells × Stands g.D.Disk.sight c.args.provider.now.chronicle) trade me c.args.moment
          screens (desk_of c.args.provider.now) (waits c.args.takers.now) c.args.events.now.items;
      works = c.requires.works;
      runs = c.requires.runs;
      links = refl;
      kept = refl;
      carries = λ tells journals fit genuine. (
        carries_nothing g.D.Disk.sight (MayFollow trade journals me) c.args.provider.now.chronicle
            c.args.provider.now.chronicle (c.what_rests_carries_on.ensures tells c.args.provider.now.chronicle),
        genuine,
      );
      stands = λ tells stands. stands;
      later = omega arith;
    }

pub returns-in_err-take_frame-clause-ends : goal.returns-in_err-take_frame-clause-ends
returns-in_err-take_frame-clause-ends g c = λ screens.
    let p = err_from_is_err_and c.from_residual.result c.from_residual.ensures.1 in
    rw (p.1, p.2)
    (leads_ends (g.D.Disk.tells × Stands g.D.Disk.sight c.args.provider.now.chronicle) (world_at c.args.house.now)
    c.args.house.now.me c.args.moment screens (g.D.Disk.tells × Stands g.D.Disk.sight c.loop.provider.chronicle)
    (λ stood. (stood.0, c.loop.invariant.stands stood.0 stood.1)) c.frames_are_taken_in_order.ensures.more
    (desk_of c.args.provider.now) (desk_of c.loop.provider) (desk_of c.take_frame.new.provider)
    (waits c.args.takers.now) (waits c.loop.takers) (waits c.take_frame.new.takers) c.args.events.now.items
    c.loop.events.items c.take_frame.new.events.items c.in_err-take_frame.field-0.0 (c.loop.invariant.leads screens)
    (c.in_err-take_frame.ensures.ends screens))

pub returns-clause-leads : goal.returns-clause-leads
returns-clause-leads g c = λ screens.
    leads_then (g.D.Disk.tells × Stands g.D.Disk.sight c.args.provider.now.chronicle) (world_at c.args.house.now)
    c.args.house.now.me c.args.moment screens (g.D.Disk.tells × Stands g.D.Disk.sight c.loop.provider.chronicle)
    (λ stood. (stood.0, c.loop.invariant.stands stood.0 stood.1)) c.frames_are_taken_in_order.ensures.more
    (desk_of c.args.provider.now) (desk_of c.loop.provider) (desk_of c.take_frame.new.provider)
    (waits c.args.takers.now) (waits c.loop.takers) (waits c.take_frame.new.takers) c.args.events.now.items
    c.loop.events.items c.take_frame.new.events.items (c.loop.invariant.leads screens)
    (c.in_ok-take_frame.ensures.leads screens)

pub returns-in_err-take_frame-clause-carries : goal.returns-in_err-take_frame-clause-carries
returns-in_err-take_frame-clause-carries g c = λ tells.
    frames_and_then g.D.Disk.sight (world_at c.args.house.now)
    c.args.house.now.me c.args.moment c.args.provider.now.chronicle c.loop.provider.chronicle
    c.take_frame.new.provider.chronicle
    (waits c.args.takers.now) (waits c.loop.takers) (waits c.take_frame.new.takers) (c.loop.invariant.carries tells)
    (c.in_err-take_frame.ensures.carries tells)

pub loop-preserved : goal.loop-preserved
loop-preserved g c = record {
  leads = λ screens.
      leads_then (g.D.Disk.tells × Stands g.D.Disk.sight c.args.provider.now.chronicle) (world_at c.args.house.now)
      c.args.house.now.me c.args.moment screens (g.D.Disk.tells × Stands g.D.Disk.sight c.loop.provider.chronicle)
      (λ stood. (stood.0, c.loop.invariant.stands stood.0 stood.1)) c.frames_are_taken_in_order.ensures.more
      (desk_of c.args.provider.now) (desk_of c.loop.provider) (desk_of c.take_frame.new.provider)
      (waits c.args.takers.now) (waits c.loop.takers) (waits c.take_frame.new.takers) c.args.events.now.items
      c.loop.events.items c.take_frame.new.events.items (c.loop.invariant.leads screens)
      (c.in_ok-take_frame.ensures.leads screens);
  works = c.in_ok-take_frame.ensures.works;
  runs = c.in_ok-take_frame.ensures.runs;
  links = c.in_ok-take_frame.ensures.links ∙ c.loop.invariant.links;
  kept = c.in_ok-take_frame.ensures.kept ∙ c.loop.invariant.kept;
  carries = λ tells.
      frames_and_then g.D.Disk.sight (world_at c.args.house.now)
      c.args.house.now.me c.args.moment c.args.provider.now.chronicle c.loop.provider.chronicle
      c.take_frame.new.provider.chronicle
      (waits c.args.takers.now) (waits c.loop.takers) (waits c.take_frame.new.takers) (c.loop.invariant.carries tells)
      (c.in_ok-take_frame.ensures.carries tells);
  stands = λ tells stands. c.in_ok-take_frame.ensures.stands tells (c.loop.invariant.stands tells stands);
  later = omega (arith, c.loop.invariant.later, c.in_ok-take_frame.ensures.later);
}

pub returns-clause-carries : goal.returns-clause-carries
returns-clause-carries g c = λ tells.
    frames_and_then g.D.Disk.sight (world_at c.args.house.now)
    c.args.house.now.me c.args.moment c.args.provider.now.chronicle c.loop.provider.chronicle
    c.take_frame.new.provider.chronicle
    (waits c.args.takers.now) (waits c.loop.takers) (waits c.take_frame.new.takers) (c.loop.invariant.carries tells)
    (c.in_ok-take_frame.ensures.carries tells)
