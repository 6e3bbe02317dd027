pub mod OfTrades
pub mod Shows
pub mod Standings
pub mod Views
