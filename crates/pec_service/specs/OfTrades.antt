-- What the crates above name of the world that a directory and its seals are, as pec_runs hands it on.
pub use Rattle.pec_runs.specs.OfTrades.{trade_of}
