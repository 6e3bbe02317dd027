-- What the crates above name of the world that a directory and its seals are: this crate hands it on, so that they needn't
-- list what stands below.
pub use Rattle.pec_trade.specs.TradeOf.{cause_at, trade_of}
