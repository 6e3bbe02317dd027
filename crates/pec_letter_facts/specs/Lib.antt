pub mod Certifying
pub mod Questions
pub mod ReadBack
