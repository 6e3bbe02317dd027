pub mod Refused
pub mod Giving
pub mod Keys
pub mod Texts
pub mod TradeOf
pub mod Houses
