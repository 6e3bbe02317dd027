pub mod Entering
pub mod Opening
pub mod Stock
pub mod Stocking
pub mod Unchanged
