pub mod Alternatives
pub mod DependentLaws
pub mod Loops
pub mod NumberLaws
mod NumberLemmas
pub mod Openings
pub mod Parts
pub mod Repeats
pub mod Sequences
pub mod TimesLemmas
pub mod Whole
