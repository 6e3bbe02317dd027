use Rattle.std.proofs.Common.{◌∙◌, ◌<◌, List, length, Err, ap, arith}
use Rattle.pec_directory.specs.Directory.{Kept, providers_of}
use Rattle.pec_ledger.specs.Network.{journals_of}
use Rattle.pec_plays.specs.Commands.{Submit, Submits}
use Rattle.pec_script.specs.Texts.{submitted_text}
use Rattle.pec_playing.proofs.AskLemmas.{call_refuses, call_says, call_stops, submitted_told, submit_of}
use Rattle.pec_playing.proofs.KeptLemmas.{as_many, keeps_others}
use Rattle.pec_playing.proofs.LookLemmas.{may_look}
use Rattle.pec_playing.proofs.providers.submit.Goals as goal
use Rattle.pec_network.specs.Network.{sites, world_of}

pub returns-in-Ok-clause-does : goal.returns-in-Ok-clause-does
returns-in-Ok-clause-does g c =
    let network = c.args.network.now in
    let trade = world_of g.S.Sealer.seals network in
    let new = c.submit.new.self in
    let within : c.args.provider < length network.providers =
    omega (arith, c.as_many_providers.ensures, c.requires.provider) in
    let keeps = keeps_others network new c.args.provider c.submit.ensures.concerns.others within
    g.D.Disk.sight g.D.Counted.faults g.D.Disk.tells trade c.submit.ensures.concerns.carries c.submit.ensures.concerns.later in
    let many = as_many network new c.args.provider c.submit.ensures.concerns.others within in
    call_says g.D.Disk.sight g.D.Counted.faults g.D.Disk.tells trade
    (Submit c.args.provider c.args.moment c.args.sender.now c.args.path.now c.args.message.now) network new keeps many
    c.args.provider within
    (submit_of trade c.args.provider c.args.moment c.args.sender.now c.args.path.now c.args.message.now) Submits
    c.in-Ok.submitted (λ providers. submitted_text providers c.in-Ok.submitted) (submitted_told c.in-Ok.submitted)
    c.in-Ok.ensures.plays c.in_ok-text-in-Ok.text
    (c.in_ok-text-in-Ok.ensures
    ∙ ap (λ (k : List Kept). submitted_text (providers_of k) c.in-Ok.submitted)
    (c.directory.ensures.value ∙ keeps.directory))

pub returns-in-Err-clause-does : goal.returns-in-Err-clause-does
returns-in-Err-clause-does g c =
    let network = c.args.network.now in
    let trade = world_of g.S.Sealer.seals network in
    let new = c.submit.new.self in
    let within : c.args.provider < length network.providers =
    omega (arith, c.as_many_providers.ensures, c.requires.provider) in
    let keeps = keeps_others network new c.args.provider c.submit.ensures.concerns.others within
    g.D.Disk.sight g.D.Counted.faults g.D.Disk.tells trade c.submit.ensures.concerns.carries c.submit.ensures.concerns.later in
    let many = as_many network new c.args.provider c.submit.ensures.concerns.others within in
    call_refuses g.D.Disk.sight g.D.Counted.faults g.D.Disk.tells trade
    (Submit c.args.provider c.args.moment c.args.sender.now c.args.path.now c.args.message.now) network new keeps many
    c.args.provider within
    (submit_of trade c.args.provider c.args.moment c.args.sender.now c.args.path.now c.args.message.now) Submits
    c.in-Err.fault (λ e. c.in-Err.ensures.concerns.disk_fault (ap Err e)) c.in-Err.ensures.plays
    c.in_ok-text-in-Err.text c.in_ok-text-in-Err.ensures

pub returns-in_err-text-in-Ok-clause-does : goal.returns-in_err-text-in-Ok-clause-does
returns-in_err-text-in-Ok-clause-does g c =
    let network = c.args.network.now in
    let trade = world_of g.S.Sealer.seals network in
    let new = c.submit.new.self in
    let within : c.args.provider < length network.providers =
    omega (arith, c.as_many_providers.ensures, c.requires.provider) in
    let keeps = keeps_others network new c.args.provider c.submit.ensures.concerns.others within
    g.D.Disk.sight g.D.Counted.faults g.D.Disk.tells trade c.submit.ensures.concerns.carries c.submit.ensures.concerns.later in
    let many = as_many network new c.args.provider c.submit.ensures.concerns.others within in
    call_stops g.D.Disk.sight g.D.Counted.faults g.D.Disk.tells trade
    (Submit c.args.provider c.args.moment c.args.sender.now c.args.path.now c.args.message.now) network new keeps many
    c.args.provider within
    (submit_of trade c.args.provider c.args.moment c.args.sender.now c.args.path.now c.args.message.now) Submits
    c.submit.result c.submit.ensures.plays c.from_residual.result c.from_residual.ensures.0

pub returns-in_err-text-in-Err-clause-does : goal.returns-in_err-text-in-Err-clause-does
returns-in_err-text-in-Err-clause-does g c =
    let network = c.args.network.now in
    let trade = world_of g.S.Sealer.seals network in
    let new = c.submit.new.self in
    let within : c.args.provider < length network.providers =
    omega (arith, c.as_many_providers.ensures, c.requires.provider) in
    let keeps = keeps_others network new c.args.provider c.submit.ensures.concerns.others within
    g.D.Disk.sight g.D.Counted.faults g.D.Disk.tells trade c.submit.ensures.concerns.carries c.submit.ensures.concerns.later in
    let many = as_many network new c.args.provider c.submit.ensures.concerns.others within in
    call_stops g.D.Disk.sight g.D.Counted.faults g.D.Disk.tells trade
    (Submit c.args.provider c.args.moment c.args.sender.now c.args.path.now c.args.message.now) network new keeps many
    c.args.provider within
    (submit_of trade c.args.provider c.args.moment c.args.sender.now c.args.path.now c.args.message.now) Submits
    c.submit.result c.submit.ensures.plays c.from_residual-in_err-text-in-Err.result
    c.from_residual-in_err-text-in-Err.ensures.0

pub returns-in-Ok-clause-looked : goal.returns-in-Ok-clause-looked
returns-in-Ok-clause-looked g c = may_look c.args.provider _ _ _ c.submit.result c.submit.ensures.looked

pub returns-in-Err-clause-looked : goal.returns-in-Err-clause-looked
returns-in-Err-clause-looked g c = may_look c.args.provider _ _ _ c.submit.result c.submit.ensures.looked

pub returns-in_err-text-in-Ok-clause-looked : goal.returns-in_err-text-in-Ok-clause-looked
returns-in_err-text-in-Ok-clause-looked g c = may_look c.args.provider _ _ _ c.submit.result c.submit.ensures.looked

pub returns-in_err-text-in-Err-clause-looked : goal.returns-in_err-text-in-Err-clause-looked
returns-in_err-text-in-Err-clause-looked g c = may_look c.args.provider _ _ _ c.submit.result c.submit.ensures.looked

pub returns-in-Ok-clause-carries : goal.returns-in-Ok-clause-carries
returns-in-Ok-clause-carries g c = λ told sound.
    c.submit.ensures.concerns.carries told (journals_of (sites c.args.network.now))

pub returns-in-Err-clause-carries : goal.returns-in-Err-clause-carries
returns-in-Err-clause-carries g c = λ told sound.
    c.submit.ensures.concerns.carries told (journals_of (sites c.args.network.now))

pub returns-in_err-text-in-Ok-clause-carries : goal.returns-in_err-text-in-Ok-clause-carries
returns-in_err-text-in-Ok-clause-carries g c = λ told sound.
    c.submit.ensures.concerns.carries told (journals_of (sites c.args.network.now))

pub returns-in_err-text-in-Err-clause-carries : goal.returns-in_err-text-in-Err-clause-carries
returns-in_err-text-in-Err-clause-carries g c = λ told sound.
    c.submit.ensures.concerns.carries told (journals_of (sites c.args.network.now))
