-- What the crates above name of the world that a directory and its seals are: this crate hands it on, so that they needn't
-- list what stands below.
pub use Rattle.pec_trade.specs.Houses.{Fits, world_at}
pub use Rattle.pec_trade.specs.Refused.{refused_facts}
pub use Rattle.pec_trade.specs.TradeOf.{cause_in, trade_of}
unfoldable pub use Rattle.pec_trade.specs.TradeOf.{cause_at}
pub use Rattle.pec_trade.specs.declared.houses.House.{House}
