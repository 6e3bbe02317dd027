use Rattle.std.proofs.Common.{◌<◌, length, Err, ap, arith}
use Rattle.pec_ledger.specs.Network.{journals_of}
use Rattle.pec_plays.specs.Commands.{Upgrade, Upgraded}
use Rattle.pec_script.specs.Texts as texts
use Rattle.pec_script.specs.declared.answers.Answer.TheVariants as lines
use Rattle.pec_playing.proofs.AskLemmas.{call_refuses, call_says, call_stops, upgrade_of, upgraded_told}
use Rattle.pec_playing.proofs.KeptLemmas.{as_many, keeps_others}
use Rattle.pec_playing.proofs.providers.upgrade.Goals as goal
use Rattle.pec_network.specs.Network.{sites, world_of}

pub returns-in-Ok-clause-does : goal.returns-in-Ok-clause-does
returns-in-Ok-clause-does g c =
    let network = c.args.network.now in
    let trade = world_of g.S.Sealer.seals network in
    let new = c.upgrade.new.self in
    let within : c.args.provider < length network.providers = omega (arith, c.as_many_providers.ensures, c.requires) in
    let keeps = keeps_others network new c.args.provider c.upgrade.ensures.concerns.others within g.D.Disk.sight g.D.Counted.faults
    g.D.Disk.tells trade c.upgrade.ensures.concerns.carries c.upgrade.ensures.concerns.later in
    let many = as_many network new c.args.provider c.upgrade.ensures.concerns.others within in
    call_says g.D.Disk.sight g.D.Counted.faults g.D.Disk.tells trade (Upgrade c.args.provider c.args.moment) network new
    keeps many c.args.provider within
    (upgrade_of trade c.args.provider c.args.moment) (λ (done : Unit {0}). Upgraded) tt
    (λ providers. texts.answer_text lines.Upgraded) upgraded_told
    c.in-Ok.ensures.plays c.in_ok-text-in-Ok.text c.in_ok-text-in-Ok.ensures

pub returns-in-Err-clause-does : goal.returns-in-Err-clause-does
returns-in-Err-clause-does g c =
    let network = c.args.network.now in
    let trade = world_of g.S.Sealer.seals network in
    let new = c.upgrade.new.self in
    let within : c.args.provider < length network.providers = omega (arith, c.as_many_providers.ensures, c.requires) in
    let keeps = keeps_others network new c.args.provider c.upgrade.ensures.concerns.others within g.D.Disk.sight g.D.Counted.faults
    g.D.Disk.tells trade c.upgrade.ensures.concerns.carries c.upgrade.ensures.concerns.later in
    let many = as_many network new c.args.provider c.upgrade.ensures.concerns.others within in
    call_refuses g.D.Disk.sight g.D.Counted.faults g.D.Disk.tells trade (Upgrade c.args.provider c.args.moment) network new
    keeps many c.args.provider within
    (upgrade_of trade c.args.provider c.args.moment) (λ (done : Unit {0}). Upgraded) c.in-Err.fault
    (λ e. c.in-Err.ensures.concerns.disk_fault (ap Err e)) c.in-Err.ensures.plays
    c.in_ok-text-in-Err.text c.in_ok-text-in-Err.ensures

pub returns-in_err-text-in-Ok-clause-does : goal.returns-in_err-text-in-Ok-clause-does
returns-in_err-text-in-Ok-clause-does g c =
    let network = c.args.network.now in
    let trade = world_of g.S.Sealer.seals network in
    let new = c.upgrade.new.self in
    let within : c.args.provider < length network.providers = omega (arith, c.as_many_providers.ensures, c.requires) in
    let keeps = keeps_others network new c.args.provider c.upgrade.ensures.concerns.others within g.D.Disk.sight g.D.Counted.faults
    g.D.Disk.tells trade c.upgrade.ensures.concerns.carries c.upgrade.ensures.concerns.later in
    let many = as_many network new c.args.provider c.upgrade.ensures.concerns.others within in
    call_stops g.D.Disk.sight g.D.Counted.faults g.D.Disk.tells trade (Upgrade c.args.provider c.args.moment) network new
    keeps many c.args.provider within
    (upgrade_of trade c.args.provider c.args.moment) (λ (done : Unit {0}). Upgraded) c.upgrade.result
    c.upgrade.ensures.plays c.from_residual.result c.from_residual.ensures.0

pub returns-in_err-text-in-Err-clause-does : goal.returns-in_err-text-in-Err-clause-does
returns-in_err-text-in-Err-clause-does g c =
    let network = c.args.network.now in
    let trade = world_of g.S.Sealer.seals network in
    let new = c.upgrade.new.self in
    let within : c.args.provider < length network.providers = omega (arith, c.as_many_providers.ensures, c.requires) in
    let keeps = keeps_others network new c.args.provider c.upgrade.ensures.concerns.others within g.D.Disk.sight g.D.Counted.faults
    g.D.Disk.tells trade c.upgrade.ensures.concerns.carries c.upgrade.ensures.concerns.later in
    let many = as_many network new c.args.provider c.upgrade.ensures.concerns.others within in
    call_stops g.D.Disk.sight g.D.Counted.faults g.D.Disk.tells trade (Upgrade c.args.provider c.args.moment) network new
    keeps many c.args.provider within
    (upgrade_of trade c.args.provider c.args.moment) (λ (done : Unit {0}). Upgraded) c.upgrade.result
    c.upgrade.ensures.plays c.from_residual-in_err-text-in-Err.result
    c.from_residual-in_err-text-in-Err.ensures.0

pub returns-in-Ok-clause-carries : goal.returns-in-Ok-clause-carries
returns-in-Ok-clause-carries g c = λ told sound.
    c.upgrade.ensures.concerns.carries told (journals_of (sites c.args.network.now))

pub returns-in-Err-clause-carries : goal.returns-in-Err-clause-carries
returns-in-Err-clause-carries g c = λ told sound.
    c.upgrade.ensures.concerns.carries told (journals_of (sites c.args.network.now))

pub returns-in_err-text-in-Ok-clause-carries : goal.returns-in_err-text-in-Ok-clause-carries
returns-in_err-text-in-Ok-clause-carries g c = λ told sound.
    c.upgrade.ensures.concerns.carries told (journals_of (sites c.args.network.now))

pub returns-in_err-text-in-Err-clause-carries : goal.returns-in_err-text-in-Err-clause-carries
returns-in_err-text-in-Err-clause-carries g c = λ told sound.
    c.upgrade.ensures.concerns.carries told (journals_of (sites c.args.network.now))
