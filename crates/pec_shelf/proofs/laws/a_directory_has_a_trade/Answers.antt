use Rattle.pec_shelf.proofs.TradeLemmas.{trade_of}
use Rattle.pec_shelf.proofs.laws.a_directory_has_a_trade.Goals as goal

pub returns : goal.returns
returns c = trade_of
