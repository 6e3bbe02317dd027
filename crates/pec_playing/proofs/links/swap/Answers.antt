use Rattle.pec_plays.specs.Commands.{Swap, Swapped}
use Rattle.pec_script.specs.declared.answers.Answer.TheVariants as lines
use Rattle.pec_playing.proofs.LinkLemmas.{link_says, link_stops, swap_free, swapped_line}
use Rattle.pec_playing.proofs.MomentLemmas.{carries_providers}
use Rattle.pec_playing.proofs.links.swap.Goals as goal
use Rattle.pec_network.specs.Network.{world_of}

pub returns-clause-does : goal.returns-clause-does
returns-clause-does g c =
    let network = c.args.network.now in
    let trade = world_of g.S.Sealer.seals network in
    link_says g.D.Disk.sight g.D.Counted.faults g.D.Disk.tells trade (Swap c.args.from c.args.to c.args.place) network
    c.swap-outcome.new.self c.swap-outcome.ensures.others (swap_free trade c.args.from c.args.to c.args.place) Swapped
    lines.Swapped swapped_line
    c.swap-outcome.result c.swap-outcome.ensures.plays c.in_ok-text.text c.in_ok-text.ensures

pub returns-in_err-text-clause-does : goal.returns-in_err-text-clause-does
returns-in_err-text-clause-does g c =
    let network = c.args.network.now in
    let trade = world_of g.S.Sealer.seals network in
    link_stops g.D.Disk.sight g.D.Counted.faults g.D.Disk.tells trade (Swap c.args.from c.args.to c.args.place) network
    c.swap-outcome.new.self c.swap-outcome.ensures.others (swap_free trade c.args.from c.args.to c.args.place) Swapped
    lines.Swapped swapped_line
    c.swap-outcome.result c.swap-outcome.ensures.plays c.from_residual.result c.from_residual.ensures.0

pub returns-clause-carries : goal.returns-clause-carries
returns-clause-carries g c =
    let network = c.args.network.now in
    carries_providers g.D.Disk.sight g.D.Disk.tells (world_of g.S.Sealer.seals network) network c.swap-outcome.new.self
    c.swap-outcome.ensures.others c.a_call_leaves_what_follows.ensures.rests

pub returns-in_err-text-clause-carries : goal.returns-in_err-text-clause-carries
returns-in_err-text-clause-carries g c =
    let network = c.args.network.now in
    carries_providers g.D.Disk.sight g.D.Disk.tells (world_of g.S.Sealer.seals network) network c.swap-outcome.new.self
    c.swap-outcome.ensures.others c.a_call_leaves_what_follows.ensures.rests
