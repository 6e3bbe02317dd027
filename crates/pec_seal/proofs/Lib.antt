pub mod Printable
pub mod LineLaws
pub mod OpeningLaws
