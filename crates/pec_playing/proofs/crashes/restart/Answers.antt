use Rattle.std.proofs.Common.{◌<◌, length, arith}
use Rattle.pec_playing.proofs.KeptLemmas.{as_many, keeps_others}
use Rattle.pec_playing.proofs.RestartLemmas.{restart_says, restart_stops}
use Rattle.pec_playing.proofs.crashes.restart.Goals as goal
use Rattle.pec_network.specs.Network.{world_of}

pub returns-clause-does : goal.returns-clause-does
returns-clause-does g c =
    let network = c.args.network.now in
    let trade = world_of g.S.Sealer.seals network in
    let new = c.restart-outcome.new.self in
    let within : c.args.provider < length network.providers = omega (arith, c.as_many_providers.ensures, c.requires) in
    let many = as_many network new c.args.provider c.restart-outcome.ensures.others within in
    let keeps = keeps_others network new c.args.provider c.restart-outcome.ensures.others within g.D.Disk.sight
    g.D.Counted.faults
    g.D.Disk.tells trade (λ told. c.restart-outcome.ensures.carries told trade) c.restart-outcome.ensures.later in
    restart_says g.D.Disk.sight g.D.Counted.faults g.D.Disk.tells trade c.args.provider network new keeps many within
    c.each_cause_is_one_of_all.ensures.found c.restart-outcome.result c.restart-outcome.ensures.plays c.restart-outcome.ensures.fit
    c.restart-outcome.ensures.refused
    c.restart-outcome.ensures.down c.restart-outcome.ensures.disk_fault c.in_ok-text.text c.in_ok-text.ensures

pub returns-in_err-text-clause-does : goal.returns-in_err-text-clause-does
returns-in_err-text-clause-does g c =
    let network = c.args.network.now in
    let trade = world_of g.S.Sealer.seals network in
    let new = c.restart-outcome.new.self in
    let within : c.args.provider < length network.providers = omega (arith, c.as_many_providers.ensures, c.requires) in
    let many = as_many network new c.args.provider c.restart-outcome.ensures.others within in
    let keeps = keeps_others network new c.args.provider c.restart-outcome.ensures.others within g.D.Disk.sight
    g.D.Counted.faults
    g.D.Disk.tells trade (λ told. c.restart-outcome.ensures.carries told trade) c.restart-outcome.ensures.later in
    restart_stops g.D.Disk.sight g.D.Counted.faults g.D.Disk.tells trade c.args.provider network new keeps many within
    c.each_cause_is_one_of_all.ensures.found c.restart-outcome.result c.restart-outcome.ensures.plays c.restart-outcome.ensures.refused
    c.restart-outcome.ensures.down c.from_residual.result
    c.from_residual.ensures.0
