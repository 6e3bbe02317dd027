pub mod Directory
pub mod Faults
pub mod Finding
pub mod Lines
pub mod Opening
pub mod Parts
pub mod Pieces
pub mod Whole
