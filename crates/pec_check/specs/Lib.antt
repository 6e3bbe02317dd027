pub mod Findings
pub mod FindingsReading
pub mod Genuine
pub mod GenuineReading
pub mod Views
