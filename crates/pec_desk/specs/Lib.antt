pub mod Desks
pub mod OfNetworks
pub mod Shares
