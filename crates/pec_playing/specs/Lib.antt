pub mod Doing
pub mod Looking
pub mod OfNetworks
pub mod Playing
pub mod Points
pub mod Saying
pub mod Spares
