pub mod ScheduleLemmas
pub mod RoundPlanLemmas
