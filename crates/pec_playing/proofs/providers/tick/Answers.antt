use Rattle.std.proofs.Common.{◌∙◌, ◌<◌, Global, List, Vec, length, Err, ap, arith}
use Rattle.pec_types.specs.declared.mailboxes.Mark.{Mark}
use Rattle.pec_directory.specs.Directory.{Kept, providers_of}
use Rattle.pec_ledger.specs.Network.{journals_of}
use Rattle.pec_plays.specs.Commands.{Tick, Marks}
use Rattle.pec_script.specs.Texts.{marks_text}
use Rattle.pec_playing.proofs.AskLemmas.{call_refuses, call_says, call_stops, marks_told, tick_of}
use Rattle.pec_playing.proofs.KeptLemmas.{as_many, keeps_others}
use Rattle.pec_playing.proofs.providers.tick.Goals as goal
use Rattle.pec_network.specs.Network.{sites, world_of}

pub returns-in-Ok-clause-does : goal.returns-in-Ok-clause-does
returns-in-Ok-clause-does g c =
    let network = c.args.network.now in
    let trade = world_of g.S.Sealer.seals network in
    let new = c.tick.new.self in
    let within : c.args.provider < length network.providers = omega (arith, c.as_many_providers.ensures, c.requires) in
    let keeps = keeps_others network new c.args.provider c.tick.ensures.concerns.others within g.D.Disk.sight g.D.Counted.faults
    g.D.Disk.tells trade c.tick.ensures.concerns.carries c.tick.ensures.concerns.later in
    let many = as_many network new c.args.provider c.tick.ensures.concerns.others within in
    call_says g.D.Disk.sight g.D.Counted.faults g.D.Disk.tells trade (Tick c.args.provider c.args.moment) network new
    keeps many c.args.provider within
    (tick_of trade c.args.provider c.args.moment) (λ (told : Vec Mark Global). Marks told.items) c.in-Ok.marks
    (λ providers. marks_text providers c.in-Ok.marks.items) (marks_told c.in-Ok.marks.items)
    c.in-Ok.ensures.plays c.in_ok-text-in-Ok.text
    (c.in_ok-text-in-Ok.ensures
    ∙ ap (λ (k : List Kept). marks_text (providers_of k) c.as_slice.result.now)
    (c.directory.ensures.value ∙ keeps.directory)
    ∙ ap (λ (l : List Mark). marks_text (providers_of network.kept) l) c.as_slice.ensures.value)

pub returns-in-Err-clause-does : goal.returns-in-Err-clause-does
returns-in-Err-clause-does g c =
    let network = c.args.network.now in
    let trade = world_of g.S.Sealer.seals network in
    let new = c.tick.new.self in
    let within : c.args.provider < length network.providers = omega (arith, c.as_many_providers.ensures, c.requires) in
    let keeps = keeps_others network new c.args.provider c.tick.ensures.concerns.others within g.D.Disk.sight g.D.Counted.faults
    g.D.Disk.tells trade c.tick.ensures.concerns.carries c.tick.ensures.concerns.later in
    let many = as_many network new c.args.provider c.tick.ensures.concerns.others within in
    call_refuses g.D.Disk.sight g.D.Counted.faults g.D.Disk.tells trade (Tick c.args.provider c.args.moment) network new
    keeps many c.args.provider within
    (tick_of trade c.args.provider c.args.moment) (λ (told : Vec Mark Global). Marks told.items) c.in-Err.fault
    (λ e. c.in-Err.ensures.concerns.disk_fault (ap Err e)) c.in-Err.ensures.plays
    c.in_ok-text-in-Err.text c.in_ok-text-in-Err.ensures

pub returns-in_err-text-in-Ok-clause-does : goal.returns-in_err-text-in-Ok-clause-does
returns-in_err-text-in-Ok-clause-does g c =
    let network = c.args.network.now in
    let trade = world_of g.S.Sealer.seals network in
    let new = c.tick.new.self in
    let within : c.args.provider < length network.providers = omega (arith, c.as_many_providers.ensures, c.requires) in
    let keeps = keeps_others network new c.args.provider c.tick.ensures.concerns.others within g.D.Disk.sight g.D.Counted.faults
    g.D.Disk.tells trade c.tick.ensures.concerns.carries c.tick.ensures.concerns.later in
    let many = as_many network new c.args.provider c.tick.ensures.concerns.others within in
    call_stops g.D.Disk.sight g.D.Counted.faults g.D.Disk.tells trade (Tick c.args.provider c.args.moment) network new
    keeps many c.args.provider within
    (tick_of trade c.args.provider c.args.moment) (λ (told : Vec Mark Global). Marks told.items) c.tick.result
    c.tick.ensures.plays c.from_residual.result c.from_residual.ensures.0

pub returns-in_err-text-in-Err-clause-does : goal.returns-in_err-text-in-Err-clause-does
returns-in_err-text-in-Err-clause-does g c =
    let network = c.args.network.now in
    let trade = world_of g.S.Sealer.seals network in
    let new = c.tick.new.self in
    let within : c.args.provider < length network.providers = omega (arith, c.as_many_providers.ensures, c.requires) in
    let keeps = keeps_others network new c.args.provider c.tick.ensures.concerns.others within g.D.Disk.sight g.D.Counted.faults
    g.D.Disk.tells trade c.tick.ensures.concerns.carries c.tick.ensures.concerns.later in
    let many = as_many network new c.args.provider c.tick.ensures.concerns.others within in
    call_stops g.D.Disk.sight g.D.Counted.faults g.D.Disk.tells trade (Tick c.args.provider c.args.moment) network new
    keeps many c.args.provider within
    (tick_of trade c.args.provider c.args.moment) (λ (told : Vec Mark Global). Marks told.items) c.tick.result
    c.tick.ensures.plays c.from_residual-in_err-text-in-Err.result
    c.from_residual-in_err-text-in-Err.ensures.0

pub returns-in-Ok-clause-carries : goal.returns-in-Ok-clause-carries
returns-in-Ok-clause-carries g c = λ told sound.
    c.tick.ensures.concerns.carries told (journals_of (sites c.args.network.now))

pub returns-in-Err-clause-carries : goal.returns-in-Err-clause-carries
returns-in-Err-clause-carries g c = λ told sound.
    c.tick.ensures.concerns.carries told (journals_of (sites c.args.network.now))

pub returns-in_err-text-in-Ok-clause-carries : goal.returns-in_err-text-in-Ok-clause-carries
returns-in_err-text-in-Ok-clause-carries g c = λ told sound.
    c.tick.ensures.concerns.carries told (journals_of (sites c.args.network.now))

pub returns-in_err-text-in-Err-clause-carries : goal.returns-in_err-text-in-Err-clause-carries
returns-in_err-text-in-Err-clause-carries g c = λ told sound.
    c.tick.ensures.concerns.carries told (journals_of (sites c.args.network.now))
