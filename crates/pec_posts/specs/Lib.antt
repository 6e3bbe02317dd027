pub mod Arrivals
pub mod Parting
