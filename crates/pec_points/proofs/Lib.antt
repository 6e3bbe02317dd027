pub mod Ties
pub mod SetLemmas
pub mod KnownLemmas
pub mod HeadLemmas
pub mod AdmissionLemmas
pub mod ScreenLemmas
pub mod ReceptionLemmas
pub mod DecisionLemmas
