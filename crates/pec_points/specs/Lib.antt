pub mod Admission
pub mod AdmissionReading
pub mod Case
pub mod Decision
pub mod DecisionReading
pub mod Known
pub mod Reception
pub mod ReceptionReading
