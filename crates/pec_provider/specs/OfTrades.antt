-- What the crates above name of the world that a directory and its seals are, as pec_reception hands it on.
pub use Rattle.pec_reception.specs.OfTrades.{Fits, House, refused_facts, trade_of, world_at}
