use Rattle.std.proofs.Common.{Err, Global, Vec, false}
use Rattle.pec_types.specs.declared.mailboxes.ItemLine.{ItemLine}
use Rattle.pec_directory.specs.Directory.{providers_of}
use Rattle.pec_plays.specs.Commands.{Mailbox, played}
use Rattle.pec_network.specs.OfProviders.{luck_of}
use Rattle.pec_network.specs.Network.{sites, world_of}
use Rattle.pec_script.specs.Texts.{items_text}
use Rattle.pec_desk.specs.Desks.{items_shown}
use Rattle.pec_desk.proofs.DeskLemmas.{seen_refused}
use Rattle.pec_desk.proofs.ShareLemmas.{items_refuse}
use Rattle.pec_desk.proofs.showing.mailbox.Goals as goal

pub returns-in-Err-clause-refusals : goal.returns-in-Err-clause-refusals
returns-in-Err-clause-refusals g c =
    let network = c.args.network.now in
    items_refuse network.kept (g.S.Sealer.seals network.sealer) (sites network) c.args.account.now c.args.number c.requires
    (luck_of false) (Err c.in-Err.fault)
    (seen_refused (λ (v : Vec ItemLine Global). v.items) items_shown (items_text (providers_of network.kept))
    (played (world_of g.S.Sealer.seals network) (luck_of false) (sites network) (Mailbox c.args.account.now)) (sites network)
    c.in-Err.fault (c.in-Err.ensures (luck_of false)))
