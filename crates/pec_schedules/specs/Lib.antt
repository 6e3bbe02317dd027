pub mod Schedules
pub mod RoundPlans
pub mod Examples
