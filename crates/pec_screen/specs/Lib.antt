pub mod Occurrence
pub mod Verdicts
pub mod VerdictReading
pub mod Screened
pub mod Perhaps
