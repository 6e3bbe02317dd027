pub mod Carrying
pub mod CarryingLaws
pub mod Chronicle
pub mod Encoding
pub mod Faults
pub mod Fields
pub mod Opening
