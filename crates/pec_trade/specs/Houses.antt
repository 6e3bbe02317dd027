-- The world of a house: `world_at`; and when a sealer fits a directory, `Fits` of pec_letters, which is handed on to who
-- lends houses. This project's profile.
use Rattle.pec_ledger.specs.Trade.{Trade}
pub use Rattle.pec_letters.specs.Fitting.{Fits}
use Rattle.pec_seal.specs.declared.sealers.Sealer.{Ghosts}
use Rattle.pec_trade.specs.TradeOf.{trade_of}
use Rattle.pec_trade.specs.declared.houses.House.{House}

-- the world of the directory at which a provider is at home, and of those who seal for its providers
abbrev pub world_at : {S : Type 0} {who : Ghosts S} → House S who → Trade
world_at {S} {who} house = trade_of house.directory.now (who.seals house.sealer.now)
