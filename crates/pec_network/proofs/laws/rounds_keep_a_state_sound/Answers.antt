use Rattle.pec_plays.specs.Commands.{Round}
use Rattle.pec_provider.specs.OfTrades.{trade_of}
use Rattle.pec_network.proofs.KeepLemmas.{none_forged}
use Rattle.pec_network.proofs.laws.rounds_keep_a_state_sound.Goals as goal

pub returns : goal.returns
returns g c = λ sealer fits old luck kept sound.
    let trade = trade_of c.args.directory.now (g.S.Sealer.seals sealer) in
    c.a_network_stays_sound.ensures.commands trade
    (c.the_texts_are_a_trade.ensures.trade sealer c.args.directory.now c.count.ensures.lawful fits) luck old
    (Round c.args.moment) sound (c.seconds.ensures.below, none_forged trade luck old c.args.moment kept)
