use Rattle.std.proofs.Common.{◌<◌, length, arith}
use Rattle.pec_playing.proofs.KeptLemmas.{as_many, keeps_others, same_falls}
use Rattle.pec_playing.proofs.RestartLemmas.{crash_says, crash_stops}
use Rattle.pec_playing.proofs.crashes.crash.Goals as goal
use Rattle.pec_network.specs.Network.{world_of}

pub returns-clause-does : goal.returns-clause-does
returns-clause-does g c =
    let network = c.args.network.now in
    let trade = world_of g.S.Sealer.seals network in
    let new = c.crash.new.self in
    let within : c.args.provider < length network.providers = omega (arith, c.as_many_providers.ensures, c.requires) in
    let many = as_many network new c.args.provider c.crash.ensures.others within in
    let keeps = keeps_others network new c.args.provider c.crash.ensures.others within g.D.Disk.sight g.D.Counted.faults
    g.D.Disk.tells trade (λ told. c.crash.ensures.carries told trade)
    (same_falls g.D.Counted.faults network.providers new.providers c.crash.ensures.counts) in
    crash_says g.D.Disk.sight g.D.Counted.faults g.D.Disk.tells trade c.args.provider network new keeps many
    c.crash.ensures.plays
    c.in_ok-text.text c.in_ok-text.ensures

pub returns-in_err-text-clause-does : goal.returns-in_err-text-clause-does
returns-in_err-text-clause-does g c =
    let network = c.args.network.now in
    let trade = world_of g.S.Sealer.seals network in
    let new = c.crash.new.self in
    let within : c.args.provider < length network.providers = omega (arith, c.as_many_providers.ensures, c.requires) in
    let many = as_many network new c.args.provider c.crash.ensures.others within in
    let keeps = keeps_others network new c.args.provider c.crash.ensures.others within g.D.Disk.sight g.D.Counted.faults
    g.D.Disk.tells trade (λ told. c.crash.ensures.carries told trade)
    (same_falls g.D.Counted.faults network.providers new.providers c.crash.ensures.counts) in
    crash_stops g.D.Disk.sight g.D.Counted.faults g.D.Disk.tells trade c.args.provider network new keeps many
    c.crash.ensures.plays
    c.from_residual.result c.from_residual.ensures.0
