-- What is seen is what the trade's view sees.
use Rattle.std.proofs.Common.{◌∙◌, sym}
use Rattle.pec_directory.specs.Directory.{providers_of}
use Rattle.pec_trade.specs.Texts.{seen_in}
use Rattle.pec_trade.specs.TradeOf.{trade_of}
use Rattle.pec_reception.proofs.SightLemmas.{nothing}
use Rattle.pec_reception.specs.Views.{framed_shown}
use Rattle.pec_reception.proofs.receiving.letter.Goals as goal

pub returns-in_default-clause-exact : goal.returns-in_default-clause-exact
returns-in_default-clause-exact g c = λ journal. λ is.
    let kept = c.args.house.now.directory.now
    in let seals = g.S.Sealer.seals c.args.house.now.sealer.now
    in nothing (trade_of kept seals) c.args.shelf.now.me c.args.moment journal (framed_shown c.args.framed.now)
    (seen_in seals (providers_of kept) c.args.framed.now.message.now) (sym c.in_default.is ∙ c.in_ok-sight.ensures)

pub returns-clause-exact : goal.returns-clause-exact
returns-clause-exact g c = λ journal. λ is.
    let seals = g.S.Sealer.seals c.args.house.now.sealer.now
    in c.in_ok-found.ensures.exact seals journal is
    (seen_in seals (providers_of c.args.house.now.directory.now) c.args.framed.now.message.now)
    (sym c.in-Some.is ∙ c.in_ok-sight.ensures)
