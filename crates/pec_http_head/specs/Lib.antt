pub mod Cuts
pub mod Fields
pub mod HeadEnds
pub mod Paths
pub mod Patterns
pub mod Requests
pub mod Routes
pub mod Views
