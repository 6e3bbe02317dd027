pub mod Cuts
pub mod NumberSteps
pub mod Numbers
pub mod Paths
