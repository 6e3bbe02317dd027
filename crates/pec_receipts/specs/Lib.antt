pub mod Kinds
pub mod Receipts
pub mod Giving
pub mod Seen
pub mod SeenReading
pub mod Views
