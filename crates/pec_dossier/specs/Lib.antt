pub mod Checks
pub mod Conflicts
pub mod Exports
pub mod Extracts
pub mod Lines
pub mod Reading
pub mod Tallies
pub mod Texts
