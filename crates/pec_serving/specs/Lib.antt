pub mod Hearing
pub mod OfNetworks
pub mod Playing
pub mod Serving
