pub mod Fitting
pub mod Envelopes
pub mod Anomalies
pub mod Seen
pub mod SeenReading
pub mod Behind
pub mod Views
