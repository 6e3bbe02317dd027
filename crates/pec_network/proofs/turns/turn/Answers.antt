use Rattle.std.proofs.Common.{List, ap, refl, sym, subst, ◌∙◌, Err}
use Rattle.std.proofs.lemmas.List.{length-map}
use Rattle.pec_types.specs.declared.turns.Event.{Event}
use Rattle.pec_types.specs.declared.turns.ProviderFault.{ProviderFault}
use Rattle.pec_types.specs.declared.turns.Turn.{Turn}
use Rattle.pec_directory.specs.Directory.{Kept}
use Rattle.pec_provider.specs.OfTrades.{world_at}
use Rattle.pec_provider.specs.Provider.{desk_of}
use Rattle.pec_network.specs.Turning.{Ends, Leads, room_in}
use Rattle.pec_chronicle.specs.CarryingLaws.{carries_nothing}
use Rattle.pec_chronicle.specs.Chronicle.{Stands}
use Rattle.pec_provider.specs.Following.{MayFollow}
use Rattle.pec_provider.specs.Provider.{Desk, site_of}
use Rattle.pec_network.proofs.LookingLemmas.{none_looked}
use Rattle.pec_network.proofs.StepLemmas.{frames_then_pairs}
use Rattle.pec_network.proofs.EndLemmas.{disk_early, fit_whole, memory_early, memory_refused, memory_whole, not_down}
use Rattle.pec_network.proofs.EndLemmas.{risen_whole, short_early, short_whole, told_whole, took_early, took_refused}
use Rattle.pec_network.proofs.EndLemmas.{took_whole, whole_weaker}
use Rattle.pec_rows.specs.Rows.{waits}
use Rattle.pec_network.proofs.turns.turn.Goals as goal

pub returns-in-Err-clause-took : goal.returns-in-Err-clause-took
returns-in-Err-clause-took g c =
    rw (c.ended.ensures.turn, c.ended.ensures.out, c.new.ensures.items)
    (took_refused (g.D.Disk.tells × Stands g.D.Disk.sight c.args.provider.now.chronicle) (world_at c.args.house.now)
    c.args.house.now.me c.args.moment (g.J.Judge.patterns c.args.judge.now) (room_in c.args.rooms.now)
    (desk_of c.args.provider.now) (waits c.args.takers.now) c.in-Err.fault
    (c.in-Err.ensures.works c.args.house.now.directory.now (g.S.Sealer.seals c.args.house.now.sealer.now) c.args.house.now.me _ c.requires.runs
    c.a_house_is_a_trade.ensures.of))

pub returns-in-Ok-clause-took : goal.returns-in-Ok-clause-took
returns-in-Ok-clause-took g c =
    let trade = world_at c.args.house.now in
    let Stood = g.D.Disk.tells × Stands g.D.Disk.sight c.args.provider.now.chronicle in
    let screens = g.J.Judge.patterns c.args.judge.now in
    let far = subst (λ (events : List Event). Leads Stood trade c.args.house.now.me c.args.moment screens
    (desk_of c.args.provider.now) (waits c.args.takers.now) events (desk_of c.take_steps.new.provider)
    (waits c.take_steps.new.takers) c.take_steps.new.events.items)
    c.new-events.ensures.items c.in-Ok.ensures.leads in
    took_whole Stood trade c.args.house.now.me c.args.moment screens
    (room_in c.args.rooms.now) (desk_of c.args.provider.now) (waits c.args.takers.now)
    c.frames_are_taken_in_order.ensures.more c.a_turn_puts_what_is_due.ensures.fit
    (desk_of c.take_steps.new.provider) (desk_of c.whole.new.provider) (waits c.take_steps.new.takers)
    c.take_steps.new.events.items _
    (c.in_default.ensures.works c.args.house.now.directory.now (g.S.Sealer.seals c.args.house.now.sealer.now) c.args.house.now.me trade c.requires.runs
    c.a_house_is_a_trade.ensures.of)
    c.requires.nothing_owed (sym (length-map c.args.house.now.directory.now (λ (one : Kept). one.provider))) far
    c.in-Ok.ensures.none c.in-Ok.ensures.decided c.whole.result
    (whole_weaker (g.D.Disk.tells × Stands g.D.Disk.sight c.take_steps.new.provider.chronicle)
    (g.D.Disk.tells × Stands g.D.Disk.sight c.args.provider.now.chronicle)
    (λ stood. (stood.0, c.in-Ok.ensures.stands stood.0 stood.1)) _ _ _ _ c.whole.result c.whole.ensures.puts)
    (λ stood. c.whole.ensures.unchanged (stood.0, c.in-Ok.ensures.stands stood.0 stood.1)) c.whole.ensures.turn

pub whole-requires-clause-up : goal.whole-requires-clause-up
whole-requires-clause-up g c =
    let trade = world_at c.args.house.now in
    let Stood = g.D.Disk.tells × Stands g.D.Disk.sight c.args.provider.now.chronicle in
    let screens = g.J.Judge.patterns c.args.judge.now in
    let far = subst (λ (events : List Event). Leads Stood trade c.args.house.now.me c.args.moment screens
    (desk_of c.args.provider.now) (waits c.args.takers.now) events (desk_of c.take_steps.new.provider)
    (waits c.take_steps.new.takers) c.take_steps.new.events.items)
    c.new-events.ensures.items c.in-Ok.ensures.leads in
    let works = c.in_default.ensures.works c.args.house.now.directory.now (g.S.Sealer.seals c.args.house.now.sealer.now)
    c.args.house.now.me trade c.requires.runs c.a_house_is_a_trade.ensures.of in
    not_down c.take_steps.new.provider.chronicle.down (ap (λ (d : Desk). d.up) far.here ∙ works.up)

pub returns-in-Ok-clause-told : goal.returns-in-Ok-clause-told
returns-in-Ok-clause-told g c =
    told_whole c.args.house.now.me c.take_steps.new.events.items
    (site_of (desk_of c.whole.new.provider) (g.J.Judge.patterns c.args.judge.now) (waits c.take_steps.new.takers))
    c.whole.result c.whole.ensures.turn

pub returns-in-Ok-clause-fit : goal.returns-in-Ok-clause-fit
returns-in-Ok-clause-fit g c = fit_whole _ _ _ _ _ c.whole.result c.whole.ensures.puts

pub returns-in-Ok-clause-carries : goal.returns-in-Ok-clause-carries
returns-in-Ok-clause-carries g c = λ tells.
    let trade = world_at c.args.house.now in
    frames_then_pairs g.D.Disk.sight trade c.args.house.now.me c.args.moment c.args.provider.now.chronicle
    c.take_steps.new.provider.chronicle c.whole.new.provider.chronicle (waits c.args.takers.now)
    (waits c.take_steps.new.takers) (c.in-Ok.ensures.carries tells)
    (λ journals. carries_nothing g.D.Disk.sight (MayFollow trade journals c.args.house.now.me)
    c.take_steps.new.provider.chronicle c.whole.new.provider.chronicle (c.whole.ensures.carries tells))

pub returns-in-Ok-clause-stands : goal.returns-in-Ok-clause-stands
returns-in-Ok-clause-stands g c = λ tells stands.
    (c.whole.ensures.carries tells).stands (c.in-Ok.ensures.stands tells stands)

pub returns-in-Ok-clause-disk_fault : goal.returns-in-Ok-clause-disk_fault
returns-in-Ok-clause-disk_fault g c =
    risen_whole _ _ _ c.whole.result c.in-Ok.ensures.later c.whole.ensures.later c.whole.ensures.disk_fault

pub returns-in-Ok-clause-short : goal.returns-in-Ok-clause-short
returns-in-Ok-clause-short g c =
    let trade = world_at c.args.house.now in
    let Stood = g.D.Disk.tells × Stands g.D.Disk.sight c.args.provider.now.chronicle in
    let screens = g.J.Judge.patterns c.args.judge.now in
    let far = subst (λ (events : List Event). Leads Stood trade c.args.house.now.me c.args.moment screens
    (desk_of c.args.provider.now) (waits c.args.takers.now) events (desk_of c.take_steps.new.provider)
    (waits c.take_steps.new.takers) c.take_steps.new.events.items)
    c.new-events.ensures.items c.in-Ok.ensures.leads in
    short_whole Stood trade c.args.house.now.me c.args.moment screens (desk_of c.args.provider.now)
    (waits c.args.takers.now) c.frames_are_taken_in_order.ensures.more
    (desk_of c.take_steps.new.provider) (desk_of c.whole.new.provider) (waits c.take_steps.new.takers)
    c.take_steps.new.events.items c.whole.result
    (c.in_default.ensures.works c.args.house.now.directory.now (g.S.Sealer.seals c.args.house.now.sealer.now) c.args.house.now.me trade c.requires.runs
    c.a_house_is_a_trade.ensures.of) far c.whole.ensures.no_memory

pub returns-in-Err-take_steps-clause-took : goal.returns-in-Err-take_steps-clause-took
returns-in-Err-take_steps-clause-took g c =
    let trade = world_at c.args.house.now in
    let Stood = g.D.Disk.tells × Stands g.D.Disk.sight c.args.provider.now.chronicle in
    let screens = g.J.Judge.patterns c.args.judge.now in
    let ends = subst (λ (events : List Event). Ends Stood trade c.args.house.now.me c.args.moment screens
    (desk_of c.args.provider.now) (waits c.args.takers.now) events c.in-Err-take_steps.fault
    (desk_of c.take_steps.new.provider) (waits c.take_steps.new.takers) c.take_steps.new.events.items)
    c.new-events.ensures.items c.in-Err-take_steps.ensures.ends in
    took_early Stood trade c.args.house.now.me c.args.moment screens (room_in c.args.rooms.now)
    (desk_of c.args.provider.now) (waits c.args.takers.now) c.frames_are_taken_in_order.ensures.more
    (desk_of c.take_steps.new.provider) (waits c.take_steps.new.takers) c.take_steps.new.events.items
    c.in-Err-take_steps.fault c.cut_off.result
    (c.in_default.ensures.works c.args.house.now.directory.now (g.S.Sealer.seals c.args.house.now.sealer.now) c.args.house.now.me trade c.requires.runs
    c.a_house_is_a_trade.ensures.of) ends
    c.cut_off.ensures.other c.cut_off.ensures.out c.cut_off.ensures.turn

pub returns-in-Err-take_steps-clause-short : goal.returns-in-Err-take_steps-clause-short
returns-in-Err-take_steps-clause-short g c =
    let trade = world_at c.args.house.now in
    let Stood = g.D.Disk.tells × Stands g.D.Disk.sight c.args.provider.now.chronicle in
    let screens = g.J.Judge.patterns c.args.judge.now in
    let ends = subst (λ (events : List Event). Ends Stood trade c.args.house.now.me c.args.moment screens
    (desk_of c.args.provider.now) (waits c.args.takers.now) events c.in-Err-take_steps.fault
    (desk_of c.take_steps.new.provider) (waits c.take_steps.new.takers) c.take_steps.new.events.items)
    c.new-events.ensures.items c.in-Err-take_steps.ensures.ends in
    short_early Stood trade c.args.house.now.me c.args.moment screens
    (desk_of c.args.provider.now) (waits c.args.takers.now) c.frames_are_taken_in_order.ensures.more
    (desk_of c.take_steps.new.provider) (waits c.take_steps.new.takers) c.take_steps.new.events.items
    c.in-Err-take_steps.fault c.cut_off.result
    (c.in_default.ensures.works c.args.house.now.directory.now (g.S.Sealer.seals c.args.house.now.sealer.now) c.args.house.now.me trade c.requires.runs
    c.a_house_is_a_trade.ensures.of) ends c.cut_off.ensures.no_memory

pub returns-in-Err-take_steps-clause-disk_fault : goal.returns-in-Err-take_steps-clause-disk_fault
returns-in-Err-take_steps-clause-disk_fault g c =
    disk_early c.args.house.now.me c.take_steps.new.events.items c.in-Err-take_steps.fault c.cut_off.result
    c.cut_off.ensures.turn
    (λ is. c.in-Err-take_steps.ensures.disk_fault (ap (λ (f : ProviderFault). Err f) is))

pub returns-in-Err-clause-memory : goal.returns-in-Err-clause-memory
returns-in-Err-clause-memory g c =
    memory_refused (world_at c.args.house.now)
    c.args.house.now.me c.args.moment (desk_of c.args.provider.now) c.in-Err.fault c.ended.result.turn.ended
    (c.in-Err.ensures.works c.args.house.now.directory.now (g.S.Sealer.seals c.args.house.now.sealer.now) c.args.house.now.me _ c.requires.runs
    c.a_house_is_a_trade.ensures.of)
    (ap (λ (t : Turn). t.ended) c.ended.ensures.turn)

pub returns-in-Ok-clause-memory : goal.returns-in-Ok-clause-memory
returns-in-Ok-clause-memory g c =
    memory_whole _ _ _ _ _ c.whole.result c.whole.ensures.puts

pub returns-in-Err-take_steps-clause-memory : goal.returns-in-Err-take_steps-clause-memory
returns-in-Err-take_steps-clause-memory g c =
    memory_early c.args.house.now.me c.take_steps.new.events.items c.in-Err-take_steps.fault c.cut_off.result
    c.cut_off.ensures.other
    c.cut_off.ensures.turn

pub take_steps-requires-clause-works : goal.take_steps-requires-clause-works
take_steps-requires-clause-works g c =
    c.in_default.ensures.works c.args.house.now.directory.now (g.S.Sealer.seals c.args.house.now.sealer.now) c.args.house.now.me
    (world_at c.args.house.now) c.requires.runs
    c.a_house_is_a_trade.ensures.of

pub returns-in-Err-clause-looked : goal.returns-in-Err-clause-looked
returns-in-Err-clause-looked g c = none_looked (g.J.Judge.seen c.args.judge.now) (g.J.Judge.seen c.args.judge.now) refl
