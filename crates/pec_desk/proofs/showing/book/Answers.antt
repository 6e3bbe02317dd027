use Rattle.std.proofs.Common.{Err, Global, Vec}
use Rattle.pec_types.specs.declared.messages.BookLine.{BookLine}
use Rattle.pec_directory.specs.Directory.{providers_of}
use Rattle.pec_plays.specs.Commands.{Book, played}
use Rattle.pec_network.specs.OfProviders.{luck_of}
use Rattle.pec_network.specs.Network.{sites, world_of}
use Rattle.pec_script.specs.Texts.{book_text}
use Rattle.std.proofs.Common.{false}
use Rattle.pec_desk.specs.Desks.{lines_shown}
use Rattle.pec_desk.proofs.DeskLemmas.{seen_refused}
use Rattle.pec_desk.proofs.ShareLemmas.{book_refuses}
use Rattle.pec_desk.proofs.showing.book.Goals as goal

pub returns-in-Err-clause-refusals : goal.returns-in-Err-clause-refusals
returns-in-Err-clause-refusals g c =
    let network = c.args.network.now in
    book_refuses network.kept (g.S.Sealer.seals network.sealer) (sites network) c.args.account.now c.args.number c.requires
    (luck_of false) (Err c.in-Err.fault)
    (seen_refused (λ (v : Vec BookLine Global). v.items) lines_shown (book_text (providers_of network.kept))
    (played (world_of g.S.Sealer.seals network) (luck_of false) (sites network) (Book c.args.account.now)) (sites network)
    c.in-Err.fault (c.in-Err.ensures (luck_of false)))
